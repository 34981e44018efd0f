-- A constant that is a part of an operand lies inside the text, and the numbers of a piece are at most 65,535.
-- Assumes nothing.
use Rattle.ground.proofs.Pairs.{ok_first}
use Rattle.lexis.specs.Took.{Took}
use Rattle.std.specs.Prelude.{Ok, Err}
use mathlib.Core.Path.{◌≡◌, refl, subst}
use mathlib.Core.Bool.{Bool, true, false, ◌||◌}
use mathlib.Core.List.{List, [], ◌∷◌}
use Prim.Native.Nat.{ℕ, zero, suc, ◌+◌, ◌≤◌}
use native.Mathlib.Omega.{arith}
use lib.Dec.{leb}
use lib.ListN.{length}
use Rattle.ground.proofs.Bools.{bool_cases, or_right}
use Rattle.ground.specs.declared.Place.{Place}
use Rattle.lexis.specs.Tokens.{token_at, inside_at, constant, cell, io, meta}
use Rattle.lexis.specs.declared.Reader.{Reader}
use Rattle.lexis.specs.declared.Token.{Token}
use Rattle.brackets.specs.Words.{is_sort}
use Rattle.brackets.specs.Parts.{is_part, base_of, part_of, parted_of, next_part, parts_from, parts_of, parts_at}
use Rattle.brackets.specs.declared.Operand.{Operand}
use Rattle.brackets.specs.declared.Part.{Part}
use Rattle.brackets.specs.declared.Parted.{Parted}
use Rattle.brackets.specs.declared.Parted.TheVariants as parted
use Rattle.saying.proofs.Tokens.{SoundToken, SoundStep, token_sound, inside_sound}
use Rattle.laying.specs.Growing.{BaseIn, PartIn, PartsIn, none, more}

module _ (text : List ℕ) where
  -- a token that is inside the text, where it is a part
  pub token_in : (t : Token) → SoundToken text t → is_part t ≡ true → PartIn text (part_of t)
  token_in t h part = bool_cases (leb 4 t.parts) (λ e. rw e base) (λ e. rw e base)
    where
      base : BaseIn text (base_of t)
      base = bool_cases (is_sort constant t) (λ e. rw e (h.inside e))
          (λ e. rw e (let v = h.index (or_right (is_sort meta t) (is_sort io t || is_sort cell t) (or_right (is_sort io t) (is_sort cell t) (rw e at part))) in let o = h.offset in (omega arith, omega arith)))

  next_in : (k : ℕ) (p : Part) (place : Place) (r : Reader) → next_part text k ≡ Ok (parted.Took p place, r) → PartIn text p
  unfolding next_part
  next_in k p place r e = go (inside_at text k) (inside_sound text k) e
    where
      go : (s : Took Token) → SoundStep text s → parted_of s ≡ Ok (parted.Took p place, r) → PartIn text p
      go (Err g) n e = let z : ◌≡◌ {A = ℕ} 0 1 = cc in absurd (omega arith)
      go (Ok (t, q)) n e = bool_cases (is_part t)
          (λ is. let same : part_of t ≡ p = (let f = rw is at e in let g : parted.Took (part_of t) t.place ≡ parted.Took p place = ok_first f in cc g) in subst (PartIn text) same (token_in t n is))
          (λ not. let f = rw not at e in let g : parted.Other t ≡ parted.Took p place = ok_first f in let z : ◌≡◌ {A = ℕ} 0 1 = cc g in absurd (omega arith))

  pub parts_in : (f k : ℕ) → PartsIn text (parts_from f text k)
  unfolding parts_from
  parts_in zero k = none
  parts_in (suc f) k = go (next_part text k) refl (λ r. parts_in f r.next.at)
    where
      go : (v : Took Parted) → next_part text k ≡ v → ((r : Reader) → PartsIn text (parts_from f text r.next.at)) → PartsIn text (parts_from (suc f) text k)
      go (Ok (parted.Took p place, r)) e ih = rw (e, parts_from) (more (next_in k p place r e) (ih r))
      go (Ok (parted.Other t, r)) e ih = rw (e, parts_from) none
      go (Err g) e ih = rw (e, parts_from) none

  -- EACH PART OF AN OPERAND
  pub operand_in : (o : Operand) → PartsIn text (parts_at text o)
  unfolding parts_at
  operand_in o = bool_cases o.given (λ e. rw e (go (token_at text o.at) (token_sound text o.at))) (λ e. rw e none)
    where
      go : (s : Took Token) → SoundStep text s → PartsIn text (parts_of text s)
      go (Err g) n = none
      go (Ok (t, r)) n = bool_cases (is_part t)
          (λ is. rw is (more (token_in t n is) none))
          (λ not. rw not (parts_in (suc (length text)) r.next.at))
