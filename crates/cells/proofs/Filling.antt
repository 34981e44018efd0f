-- A lent slice that is filled bit after bit: what is left to put gives what the whole gives. Bits that the slice has no place for are
-- dropped.
use mathlib.Core.Path.{◌≡◌, refl, sym, ap, ◌∙◌}
use mathlib.Core.List.{List, [], ◌∷◌}
use Prim.Native.Nat.{ℕ, suc, ◌+◌, ◌≤◌, min}
use native.Mathlib.Numerals.{add-one}
use native.Mathlib.Omega.{arith}
use lib.Dec.{leb}
use lib.ListN.{length, set, length-set}
use lib.Seq.{sets, set_out}
use borrow.Author.Tests.{leb-true, leb-false}
use Rattle.ground.proofs.Bools.{bool_cases}

-- of the bits `all`, to be put over `old` from `at` on, `rest` is left to be put over `new` from i on
pub record Leaves (old : List ℕ) (at : ℕ) (all new : List ℕ) (i : ℕ) (rest : List ℕ) : Type 0 where
  pub long : length new ≡ length old
  pub goes : sets new i rest ≡ sets old at all

sets_past : (l : List ℕ) (n : ℕ) (xs : List ℕ) → length l ≤ n → sets l n xs ≡ l
sets_past l n [] h = refl
sets_past l n (x ∷ xs) h = rw (set_out l n x h) (sets_past l (suc n) xs (omega arith))

pub start : (old : List ℕ) (at : ℕ) (all : List ℕ) → Leaves old at all old at all
start old at all = record { long = refl; goes = refl }

module _ {old : List ℕ} {at : ℕ} {all new : List ℕ} {i : ℕ} {rest : List ℕ} where
  pub turn : {x y : ℕ} {more : List ℕ} → Leaves old at all new i rest → rest ≡ x ∷ more → y ≡ x → Leaves old at all (set new i y) (i + 1) more
  turn {x} {y} {more} w e f = record {
    long = length-set new i y ∙ w.long;
    goes = rw (add-one, f) (ap (sets new i) (sym e) ∙ w.goes);
  }

  -- all is put, or the slice is full
  pub ended : Leaves old at all new i rest → rest ≡ [] → new ≡ sets old at all
  ended w e = ap (sets new i) (sym e) ∙ w.goes

  pub full : Leaves old at all new i rest → length old ≤ i → new ≡ sets old at all
  full w h = sym (sets_past new i rest (omega (arith, w.long))) ∙ w.goes

  pub done : (n : ℕ) → Leaves old at all new i rest → min n (length old) ≤ i → (n ≤ i → rest ≡ []) → new ≡ sets old at all
  done n w h e = bool_cases (leb n i) (λ t. ended w (e (leb-true n i t))) (λ t. full w (omega (arith, leb-false n i t)))
