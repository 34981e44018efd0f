-- Two strings, compared byte by byte: how the comparison goes on and ends, and that it may be turned round.
use mathlib.Core.Path.{◌≡◌, refl, sym, ap}
use mathlib.Core.Bool.{Bool, true, false}
use mathlib.Core.List.{List, [], ◌∷◌}
use Prim.Native.Nat.{ℕ, suc, ◌+◌, ◌<◌, ◌≤◌}
use lib.Dec.{eqb}
use lib.Pointwise.{pointwise}
use lib.ListN.{length, drop, get_or}
use borrow.Author.Tests.{eq-eqb, ne_eqb, eqb-true, eqb-false}
use Rattle.ground.specs.Text.{same}
use Rattle.ground.proofs.Bools.{bool_cases}
use Rattle.ground.proofs.Rest.{rest_cons, rest_end}

module _ (a b : List ℕ) (i : ℕ) where
  -- a byte that both have: the same, or not
  pub same_on : i < length a → i < length b → get_or a i 0 ≡ get_or b i 0 → same (drop (i + 1) a) (drop (i + 1) b) ≡ same (drop i a) (drop i b)
  unfolding same
  same_on h k e = rw (rest_cons a i h, rest_cons b i k) (rw (eq-eqb (get_or a i 0) (get_or b i 0) e, same))

  pub same_differ : i < length a → i < length b → (get_or a i 0 ≡ get_or b i 0 → ⊥) → false ≡ same (drop i a) (drop i b)
  unfolding same
  same_differ h k e = rw (rest_cons a i h, rest_cons b i k) (rw (ne_eqb (get_or a i 0) (get_or b i 0) e, same))

  -- both end
  pub same_end : length a ≤ i → length b ≤ i → true ≡ same (drop i a) (drop i b)
  unfolding same
  same_end h k = rw (rest_end a i h, rest_end b i k)

-- strings of two lengths
pub same_lengths : (a b : List ℕ) → (length a ≡ length b → ⊥) → false ≡ same a b
unfolding same
same_lengths [] [] h = absurd (h refl)
same_lengths [] (y ∷ b) h = refl
same_lengths (x ∷ a) [] h = refl
same_lengths (x ∷ a) (y ∷ b) h = bool_cases (eqb x y) (λ e. rw (e, same) (same_lengths a b (λ k. h (ap suc k)))) (λ e. rw (e, same))

pub same_turned : (a b : List ℕ) → same a b ≡ same b a
unfolding same
same_turned [] [] = refl
same_turned [] (y ∷ ys) = refl
same_turned (x ∷ xs) [] = refl
same_turned (x ∷ xs) (y ∷ ys) = bool_cases (eqb x y)
    (λ e. let f : eqb y x ≡ true = eq-eqb y x (sym (eqb-true x y e)) in rw (e, same, f, same) (same_turned xs ys))
    (λ e. let f : eqb y x ≡ false = ne_eqb y x (λ z. eqb-false x y e (sym z)) in rw (e, same, f, same) refl)

-- slices compared by `==`
pub same_pointwise : (a b : List ℕ) → pointwise eqb a b ≡ same a b
unfolding same
same_pointwise [] [] = refl
same_pointwise [] (y ∷ ys) = refl
same_pointwise (x ∷ xs) [] = refl
same_pointwise (x ∷ xs) (y ∷ ys) = bool_cases (eqb x y) (λ e. rw (same, e) (same_pointwise xs ys)) (λ e. rw (same, e))
