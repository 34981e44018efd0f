-- A map from author's numbers to rows with one number more.
-- Assumes nothing.
use mathlib.Core.Path.{◌≡◌, refl, sym, ap, ◌∙◌}
use mathlib.Core.Bool.{Bool, true, false}
use mathlib.Core.List.{List, [], ◌∷◌, ◌++◌}
use Prim.Native.Nat.{ℕ, zero, suc, ◌+◌, ◌<◌, ◌≤◌}
use native.Mathlib.Nat.{add-zero}
use native.Mathlib.Omega.{arith}
use lib.Dec.{eqb}
use lib.ListN.{length, get_or, set, length-set}
use lib.Seq.{get_or-set_same, get_or-set_other}
use borrow.Author.Tests.{eqb-true, eqb-false, eq-eqb, ne_eqb}
use Rattle.ground.proofs.Bools.{bool_cases}
use Rattle.saying.specs.Values.{row_from, row_of}
use Rattle.saying.specs.Notes.{Maps}

-- a number that was not declared stands behind all that were
row_last : (ns : List ℕ) (i row : ℕ) → 0 < row → row_from ns i row ≡ 0 → row_from (ns ++ (i ∷ [])) i row ≡ row + length ns
unfolding row_from
row_last [] i row h e = rw (eq-eqb i i refl, row_from) (sym (add-zero row))
row_last (n ∷ ns) i row h e = bool_cases (eqb n i)
    (λ t. let z : row ≡ 0 = rw (t, row_from) at e in absurd (omega arith))
    (λ f. let r = row_last ns i (row + 1) (omega arith) (rw (f, row_from) at e) in rw (f, row_from) (omega arith))

-- every other one stands where it stood
row_other : (ns : List ℕ) (i k row : ℕ) → (i ≡ k → ⊥) → row_from (ns ++ (i ∷ [])) k row ≡ row_from ns k row
unfolding row_from
row_other [] i k row d = rw (ne_eqb i k d, row_from)
row_other (n ∷ ns) i k row d = bool_cases (eqb n k)
    (λ t. rw (t, row_from))
    (λ f. rw (f, row_from) (row_other ns i k (row + 1) d))

module _ (ns m : List ℕ) (i : ℕ) (h : Maps ns m) (fresh : row_of ns i ≡ 0) (small : i < 65536) where
  maps_at : (k : ℕ) → k < 65536 → get_or (set m i (length ns + 1)) k 0 ≡ row_of (ns ++ (i ∷ [])) k
  maps_at k l = bool_cases (eqb k i)
      (λ t. rw (eqb-true k i t) (get_or-set_same m i (length ns + 1) 0 (omega (arith, h.long)) ∙ omega (arith, row_last ns i 1 (omega arith) fresh)))
      (λ f. get_or-set_other m i k (length ns + 1) 0 (eqb-false k i f) ∙ h.is k l ∙ sym (row_other ns i k 1 (λ e. eqb-false k i f (sym e))))

  pub maps_more : Maps (ns ++ (i ∷ [])) (set m i (length ns + 1))
  maps_more = record { long = length-set m i (length ns + 1) ∙ h.long; is = maps_at }
