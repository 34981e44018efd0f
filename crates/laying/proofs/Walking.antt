-- An operand from its first part to its last.
-- Assumes nothing.
use Rattle.std.specs.Prelude.{Ok, Err, Option, Some, None}
use mathlib.Core.Path.{◌≡◌, refl, ap, sym, subst, ◌∙◌}
use mathlib.Core.Bool.{Bool, true, false, ◌||◌}
use mathlib.Core.List.{List, [], ◌∷◌, ◌++◌, append-nil}
use Prim.Native.Nat.{ℕ, zero, suc, ◌+◌, ◌-◌, ◌*◌, ◌<◌, ◌≤◌}
use native.Mathlib.Numerals.{sub-one}
use native.Mathlib.Nat.{suc-mul}
use native.Mathlib.Omega.{arith}
use lib.Dec.{eqb}
use lib.ListN.{length, length-append}
use borrow.Author.Tests.{eq-eqb, ne_eqb}
use Rattle.ground.specs.Lists.{joined}
use Rattle.ground.specs.declared.Refusal.{Refusal}
use Rattle.lexis.specs.Tokens.{token_at, inside_at}
use Rattle.lexis.specs.declared.Reader.{Reader}
use Rattle.lexis.specs.declared.Token.{Token}
use Rattle.brackets.specs.Parts.{PartAt, is_part, part_of, part_width, parted_of, next_part, parts_from, parts_at}
use Rattle.brackets.specs.declared.Operand.{Operand}
use Rattle.brackets.specs.declared.Parted.TheVariants as parted
use Rattle.brackets.proofs.Sums.{widths}
use Rattle.netlist.specs.Netlist.{Run}
use Rattle.netlist.specs.Runs.{cut}
use Rattle.saying.specs.Values.{part_bits, operand_runs}
use Rattle.saying.proofs.Tokens.{SoundStep, token_sound}
use Rattle.laying.specs.Holding.{Holds, Held, After}
use Rattle.laying.specs.Growing.{Open, Opened, Grows, PartIn, PartsIn, none, more}
use Rattle.laying.specs.Bare.{is_bare, some_bare, TellsBare, token_part, PartsFit, PartsLaid}
use Rattle.laying.specs.declared.Laid.{Laid}
use Rattle.laying.proofs.Inside.{token_in}
use Rattle.laying.proofs.Turning.{Turned, turned_none, turned_more, turned_full, turned_all, turned_room, bits_of, bits_wide, part_wide}

-- THE PARTS BETWEEN BRACKETS, by the next token, with f parts still allowed
module _ (text : List ℕ) (k : ℕ) where
  pub parts_none : (f : ℕ) → f ≤ 0 → parts_from f text k ≡ []
  unfolding parts_from
  parts_none zero h = refl
  parts_none (suc f) h = absurd (omega arith)

  pub parts_refused : (f : ℕ) (g : Refusal) → inside_at text k ≡ Err g → parts_from f text k ≡ []
  unfolding parts_from next_part
  parts_refused zero g e = refl
  parts_refused (suc f) g e = let v : next_part text k ≡ Err g = ap parted_of e in rw (v, parts_from)

  module _ (t : Token) (r : Reader) (e : inside_at text k ≡ Ok (t, r)) where
    pub parts_other : (f : ℕ) → is_part t ≡ false → parts_from f text k ≡ []
    unfolding parts_from next_part
    parts_other zero not = refl
    parts_other (suc f) not = let v : next_part text k ≡ Ok (parted.Other t, r) = ap parted_of e ∙ rw not in rw (v, parts_from)

    pub parts_took : (f : ℕ) → 0 < f → is_part t ≡ true → parts_from f text k ≡ token_part t ∷ parts_from (f - 1) text r.next.at
    unfolding parts_from next_part
    parts_took zero h is = absurd (omega arith)
    parts_took (suc f) h is = let v : next_part text k ≡ Ok (parted.Took (token_part t).part t.place, r) = ap parted_of e ∙ rw is in simp sub-one (rw (v, parts_from))

-- A REPETITION without bits: by 0, or of nothing
pub none_bare : (n w : ℕ) → n ≡ 0 → true ≡ eqb (n * w) 0
none_bare n w e = let z : n * w ≡ 0 = rw e (omega arith) in sym (eq-eqb (n * w) 0 z)

pub some_bare_lem : (n w : ℕ) → (n ≡ 0 → ⊥) → eqb w 0 ≡ eqb (n * w) 0
some_bare_lem zero w h = absurd (h refl)
some_bare_lem (suc n) zero h = let z : suc n * 0 ≡ 0 = omega arith in rw z
some_bare_lem (suc n) (suc w) h = let m = suc-mul n (suc w) in ne_eqb (suc w) 0 (λ e. omega arith) ∙ sym (ne_eqb (suc n * suc w) 0 (λ e. omega arith))

-- THE START: nothing of the operand is laid
open_none : {rs : List Run} {runs trits : List ℕ} {so : Laid} → Holds rs runs trits so → Open rs [] so.runs runs trits so
unfolding cut
open_none {rs} {runs} {trits} {so} h = record { begun = h.count; holds = subst (λ (l : List Run). Holds l runs trits so) (sym (append-nil rs)) h }

opened_none : {runs trits : List ℕ} {so : Laid} {n : ℕ} → Held runs trits so → n ≤ 256 → so.trits + n ≤ 262656 → Opened so.runs runs trits so n
opened_none h narrow room = record {
  rs = h.rs;
  done = [];
  stands = open_none h.holds;
  narrow = omega arith;
  room = omega (arith, h.holds.filled);
}

or_none : (b : Bool) → b || false ≡ b
or_none true = refl
or_none false = refl

or_assoc : (a b c : Bool) → (a || b) || c ≡ a || (b || c)
or_assoc true b c = refl
or_assoc false b c = refl

-- an operand of the parts `all` on its way: those before `rest` are laid, and `bare` tells whether one of them has no bits
pub record Walks (text : List ℕ) (all rest : List PartAt) (runs₀ trits₀ : List ℕ) (so₀ : Laid) (runs trits : List ℕ) (so : Laid) (bare : Bool) : Type 0 where
  pub wide : length (bits_of text all) ≡ widths all
  pub inside : PartsIn text rest
  pub turned : Turned so₀.runs runs₀ trits₀ so₀ (bits_of text all) (bits_of text rest) runs trits so
  pub told : bare || some_bare rest ≡ some_bare all

pub walks_as : {text : List ℕ} {all rest rest' : List PartAt} {runs₀ trits₀ : List ℕ} {so₀ : Laid} {runs trits : List ℕ} {so : Laid} {bare : Bool} → rest ≡ rest'
    → Walks text all rest runs₀ trits₀ so₀ runs trits so bare → Walks text all rest' runs₀ trits₀ so₀ runs trits so bare
walks_as {text} {all} {rest} {rest'} {runs₀} {trits₀} {so₀} {runs} {trits} {so} {bare} e w = subst (λ (l : List PartAt). Walks text all l runs₀ trits₀ so₀ runs trits so bare) e w

module _ (text : List ℕ) (all : List PartAt) (runs₀ trits₀ : List ℕ) (so₀ : Laid) where
  pub walks_none : PartsIn text all → Walks text all all runs₀ trits₀ so₀ runs₀ trits₀ so₀ false
  walks_none i = record { wide = bits_wide text i; inside = i; turned = turned_none so₀.runs runs₀ trits₀ so₀ (bits_of text all); told = refl }

  module _ {runs trits : List ℕ} {so : Laid} {bare : Bool} where
    -- no part is left
    pub walks_done : Walks text all [] runs₀ trits₀ so₀ runs trits so bare → PartsLaid text all runs₀ trits₀ so₀ (Some (so, bare)) runs trits
    unfolding joined some_bare
    walks_done w = record {
      laid = λ rs h. ((turned_all w.turned).behind rs [] (open_none h)).holds;
      tells = sym (or_none bare) ∙ w.told;
    }

    -- one more
    module _ (p : PartAt) (rest : List PartAt) (w : Walks text all (p ∷ rest) runs₀ trits₀ so₀ runs trits so bare) where
      walks_in : PartIn text p.part
      walks_in = go w.inside
        where
          go : PartsIn text (p ∷ rest) → PartIn text p.part
          go (more h hs) = h

      rest_in : PartsIn text rest
      rest_in = go w.inside
        where
          go : PartsIn text (p ∷ rest) → PartsIn text rest
          go (more h hs) = hs

      on_turn : Turned so₀.runs runs₀ trits₀ so₀ (bits_of text all) (part_bits text p.part ++ bits_of text rest) runs trits so
      unfolding joined
      on_turn = w.turned

      walks_room : PartsFit all runs₀ trits₀ so₀ → Opened so₀.runs runs trits so (part_width p.part)
      walks_room h =
          let l = w.wide in
          let m = part_wide text p.part walks_in in
          turned_room (part_bits text p.part ++ bits_of text rest) on_turn (opened_none h.held h.narrow h.room) (omega arith) (part_width p.part) (rw length-append (omega arith))

      -- the part lies in the text, and there is room for it
      pub walks_fits : PartsFit all runs₀ trits₀ so₀ → PartIn text p.part × Opened so₀.runs runs trits so (part_width p.part)
      walks_fits h = (walks_in, walks_room h)

      pub walks_more : {runs' trits' : List ℕ} {so' : Laid} {bare' : Bool} → Grows so₀.runs runs trits so (part_bits text p.part) (Some so') runs' trits'
          → bare' ≡ bare || is_bare p → Walks text all rest runs₀ trits₀ so₀ runs' trits' so' bare'
      unfolding some_bare
      walks_more g b = record {
        wide = w.wide;
        inside = rest_in;
        turned = turned_more (part_bits text p.part) (bits_of text rest) on_turn g;
        told = ap (λ (x : Bool). x || some_bare rest) b ∙ or_assoc bare (is_bare p) (some_bare rest) ∙ w.told;
      }

      pub walks_full : {runs' trits' : List ℕ} → Grows so₀.runs runs trits so (part_bits text p.part) None runs' trits'
          → PartsLaid text all runs₀ trits₀ so₀ None runs' trits'
      walks_full {runs'} {trits'} g =
          let f : Grows so₀.runs runs₀ trits₀ so₀ (bits_of text all) None runs' trits' = turned_full (part_bits text p.part) (bits_of text rest) on_turn g in
          record { laid = λ rs h. f.behind rs [] (open_none h); tells = tt }

-- AN OPERAND THAT IS ONE PART
module _ (text : List ℕ) (p : PartAt) (i : PartIn text p.part) {runs₀ trits₀ : List ℕ} {so₀ : Laid} where
  alone_walks : Walks text (p ∷ []) (p ∷ []) runs₀ trits₀ so₀ runs₀ trits₀ so₀ false
  alone_walks = walks_none text (p ∷ []) runs₀ trits₀ so₀ (more i none)

  pub alone_fits : PartsFit (p ∷ []) runs₀ trits₀ so₀ → Opened so₀.runs runs₀ trits₀ so₀ (part_width p.part)
  alone_fits h = (walks_fits text (p ∷ []) runs₀ trits₀ so₀ p [] alone_walks h).1

  pub alone_laid : {runs trits : List ℕ} {so : Laid} {bare : Bool} → Grows so₀.runs runs₀ trits₀ so₀ (part_bits text p.part) (Some so) runs trits
      → bare ≡ is_bare p → PartsLaid text (p ∷ []) runs₀ trits₀ so₀ (Some (so, bare)) runs trits
  alone_laid g b = walks_done text (p ∷ []) runs₀ trits₀ so₀ (walks_more text (p ∷ []) runs₀ trits₀ so₀ p [] alone_walks g b)

  pub alone_full : {runs trits : List ℕ} → Grows so₀.runs runs₀ trits₀ so₀ (part_bits text p.part) None runs trits
      → PartsLaid text (p ∷ []) runs₀ trits₀ so₀ None runs trits
  alone_full g = walks_full text (p ∷ []) runs₀ trits₀ so₀ p [] alone_walks g

-- THE OPERAND, by its first token
module _ (text : List ℕ) (o : Operand) where
  pub at_none : o.given ≡ false → [] ≡ parts_at text o
  unfolding parts_at
  at_none g = rw g

  pub at_refused : o.given ≡ true → (f : Refusal) → token_at text o.at ≡ Err f → [] ≡ parts_at text o
  unfolding parts_at
  at_refused g f e = rw (g, e)

  module _ (given : o.given ≡ true) (t : Token) (r : Reader) (e : token_at text o.at ≡ Ok (t, r)) where
    pub at_alone : is_part t ≡ true → token_part t ∷ [] ≡ parts_at text o
    unfolding parts_at
    at_alone is = rw (given, e, is)

    pub at_within : is_part t ≡ false → parts_from (suc (length text)) text r.next.at ≡ parts_at text o
    unfolding parts_at
    at_within not = rw (given, e, not)

    pub alone_in : is_part t ≡ true → PartIn text (part_of t)
    alone_in is = token_in text t (subst (SoundStep text) e (token_sound text o.at)) is

  module _ {ps : List PartAt} (whole : ps ≡ parts_at text o) {runs trits : List ℕ} {so : Laid} where
    pub operand_fits : Held runs trits so → widths (parts_at text o) ≤ 256 → so.trits + widths (parts_at text o) ≤ 262656 → PartsFit ps runs trits so
    operand_fits h narrow room = rw whole record { held = h; narrow = narrow; room = room }

    -- what a finished operand leaves
    pub operand_laid : {r : Option (Laid × Bool)} {runs' trits' : List ℕ} → PartsLaid text ps runs trits so r runs' trits'
        → ((rs : List Run) → Holds rs runs trits so → After rs (operand_runs text o) r runs' trits') × TellsBare (some_bare (parts_at text o)) r
    unfolding operand_runs
    operand_laid l = let m = rw whole at l in (m.laid, m.tells)

pub nothing_laid : (text runs trits : List ℕ) (so : Laid) → PartsLaid text [] runs trits so (Some (so, false)) runs trits
nothing_laid text runs trits so = walks_done text [] runs trits so (walks_none text [] runs trits so none)
