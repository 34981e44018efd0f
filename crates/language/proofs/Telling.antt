-- Declarations that stand, and that keep every rule of 9 to 13 taken together, are read one after the other to the end.
use mathlib.Core.Path.{◌≡◌, ◌∙◌}
use mathlib.Core.Bool.{Bool, true, false, not}
use mathlib.Core.Logic.{⊎_elim}
use mathlib.Core.List.{List, [], ◌∷◌, ◌++◌, append_assoc, map-append}
use mathlib.Core.Option.{none}
use Prim.Native.Nat.{ℕ, zero, suc, ◌<◌}
use native.Mathlib.Omega.{arith}
use lib.ListN.{length}
use Rattle.ground.specs.Lists.{every}
use Rattle.ground.proofs.Bools.{bool_cases, and_true}
use Rattle.kinds.specs.Kinds.{kind_at, input_kind, output_kind}
use Rattle.form.specs.declared.Declared.{Declared}
use Rattle.netlist.specs.Netlist.{Io, Cell}
use Rattle.netlist.specs.Rules.{taken, distinct, io_names, names_as, roomy}
use Rattle.saying.specs.Rules.{Sofar, Said, metadata, pad, cell, said_by, added, declares, twice, misnamed, asked_of, incomplete, misfit, ruled_out}
use Rattle.declaring.specs.Reading.{all, declarations_from}
use Rattle.declaring.proofs.Declaring.{form_ends, goes_on}
use Rattle.accepting.proofs.Sound.{Passed}
use Rattle.fronts.proofs.Names.{taken_before, name_new, named_kind}
use Rattle.language.specs.Language.{Stand, ended, next, say_from, each_from, once}
use Rattle.language.proofs.Growth.{Grown, grown_all, grown_roomy}
use Rattle.language.proofs.Once.{once_before}
use Rattle.language.proofs.Firsts.{not_true, all_named}

-- the tests of rules 10, 11 and 12 by the declarations before
abbrev pub referring : List ℕ → Sofar → Declared → Bool
referring text so d = every (λ q. not (misnamed so q)) (asked_of text d.decl)

abbrev pub completed : List ℕ → Sofar → Declared → Bool
completed text so d = not (incomplete (said_by text so d.decl))

abbrev pub fitting : List ℕ → Sofar → Declared → Bool
fitting text so d = not (misfit (said_by text so d.decl))

-- RULES 9 AND 13, of all that is said
pub record Kept (so : Sofar) : Type 0 where
  pub meta_numbers : once so.meta_numbers ≡ true
  pub cell_numbers : once so.cell_numbers ≡ true
  pub pads : distinct (io_names so.netlist.ios) ≡ true
  pub inputs : distinct (names_as input_kind so.netlist.cells) ≡ true
  pub outputs : distinct (names_as output_kind so.netlist.cells) ≡ true
  pub room : roomy so.netlist ≡ true

-- a declaration that passes each rule passes all
passes : (text : List ℕ) (so : Sofar) (d : Declared) → Passed text so d (said_by text so d.decl) → ruled_out text so d ≡ none
unfolding ruled_out
passes text so d p = rw (p.once, p.named, p.whole, p.fits, p.room)

-- one of numbers that stand once, in a front of them
number_new : (ns : List ℕ) (n : ℕ) (rest ms : List ℕ) → ms ≡ (ns ++ (n ∷ [])) ++ rest → once ms ≡ true → declares ns n ≡ false
number_new ns n rest ms e h = once_before ns n rest (rw (e, append_assoc ns (n ∷ []) rest) at h)

-- RULE 9: what stands once at the end is new where it is declared
module _ (so more : Sofar) (index : ℕ) (h : Kept more) where
  name_once : (c : Cell) (rest : List Cell) → more.netlist.cells ≡ (so.netlist.cells ++ (c ∷ [])) ++ rest → (kind_at c.kind).named ≡ true → taken c.name (names_as c.kind so.netlist.cells) ≡ false
  name_once c rest e n =
      let f : more.netlist.cells ≡ so.netlist.cells ++ (c ∷ rest) = e ∙ append_assoc so.netlist.cells (c ∷ []) rest in
      ⊎_elim
      (λ k. name_new input_kind more.netlist.cells so.netlist.cells c rest f h.inputs k)
      (λ k. name_new output_kind more.netlist.cells so.netlist.cells c rest f h.outputs k)
      (named_kind c.kind n)

  declared_once : (s : Said) → Grown (added so index s) more → twice so index s ≡ false
  unfolding added
  declared_once (metadata m) g = number_new so.meta_numbers index g.meta_numbers.rest more.meta_numbers g.meta_numbers.is h.meta_numbers
  declared_once (pad i) g =
      let rest = g.ios.rest in
      let is = so.netlist.ios in
      let names : distinct (io_names is ++ (i.name ∷ io_names rest)) ≡ true = rw (g.ios.is, append_assoc is (i ∷ []) rest, map-append (λ (i : Io). i.name) is (i ∷ rest)) at h.pads in
      taken_before (io_names is) i.name (io_names rest) names
  declared_once (cell c a b d ps) g =
      rw (number_new so.cell_numbers index g.cell_numbers.rest more.cell_numbers g.cell_numbers.is h.cell_numbers)
      (bool_cases (kind_at c.kind).named (λ n. rw n (name_once c g.cells.rest g.cells.is n)) (λ n. rw n))

-- ALL DECLARATIONS, with more fuel than there are
module _ (text : List ℕ) where
  -- what reading comes to is what they say
  pub all_told : {k : ℕ} {ds : List Declared} → Stand text k ds → (f : ℕ) (so : Sofar) → length ds < f → Kept (say_from text so ds)
      → each_from (referring text) text so ds ≡ true → each_from (completed text) text so ds ≡ true → each_from (fitting text) text so ds ≡ true
      → declarations_from f text k so ≡ all (say_from text so ds)
  unfolding say_from each_from
  all_told s zero so l h r c w = absurd (omega arith)
  all_told {k} (ended e) (suc f) so l h r c w = form_ends text k so e f
  all_told {k} (next {d = d} {r = reader} {ds = ds} e s) (suc f) so l h r c w =
      let said = said_by text so d.decl in
      let more = added so d.index said in
      let grown = grown_all text more ds in
      let r' = and_true (referring text so d) (each_from (referring text) text more ds) r in
      let c' = and_true (completed text so d) (each_from (completed text) text more ds) c in
      let w' = and_true (fitting text so d) (each_from (fitting text) text more ds) w in
      let p : Passed text so d said = record {
        once = declared_once so (say_from text more ds) d.index h said grown;
        named = all_named so (asked_of text d.decl) r'.0;
        whole = not_true (incomplete said) c'.0;
        fits = not_true (misfit said) w'.0;
        room = grown_roomy grown h.room;
      } in
      goes_on text k so d reader e (passes text so d p) f ∙ all_told s f more (omega arith) h r'.1 c'.1 w'.1
