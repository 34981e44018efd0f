-- Numbers that stand once: none of them is declared before it, and one more that is not declared stands once with them.
use mathlib.Core.Path.{◌≡◌, refl}
use mathlib.Core.Bool.{true, false, not}
use mathlib.Core.List.{List, [], ◌∷◌, ◌++◌}
use Prim.Native.Nat.{ℕ, ◌+◌, ◌≤◌}
use native.Mathlib.Omega.{arith}
use lib.Dec.{eqb, leb}
use borrow.Author.Tests.{le-leb}
use Rattle.ground.proofs.Bools.{bool_cases, never_both, and_true, true_and, not_of_false}
use Rattle.saying.specs.Values.{row_from}
use Rattle.saying.specs.Rules.{declares}
use Rattle.language.specs.Language.{has, once}
use Rattle.language.proofs.Firsts.{not_true}

-- a number that is not among numbers is none of them
has_not : (n m : ℕ) (front back : List ℕ) → has n (front ++ (m ∷ back)) ≡ false → eqb n m ≡ false
unfolding has
has_not n m [] back h = bool_cases (eqb n m) (λ e. never_both refl (rw (e, has) at h)) (λ e. e)
has_not n m (x ∷ front) back h = bool_cases (eqb n x)
    (λ e. never_both refl (rw (e, has) at h))
    (λ e. has_not n m front back (rw (e, has) at h))

-- has no row
row_none : (front : List ℕ) (n : ℕ) (back : List ℕ) (row : ℕ) → once (front ++ (n ∷ back)) ≡ true → row_from front n row ≡ 0
unfolding row_from once
row_none [] n back row h = refl
row_none (m ∷ front) n back row h =
    let p = and_true (not (has m (front ++ (n ∷ back)))) (once (front ++ (n ∷ back))) h in
    let e : eqb m n ≡ false = has_not m n front back (not_true _ p.0) in
    rw (e, row_from) (row_none front n back (row + 1) p.1)

-- one of numbers that stand once is not declared before it
pub once_before : (front : List ℕ) (n : ℕ) (back : List ℕ) → once (front ++ (n ∷ back)) ≡ true → declares front n ≡ false
once_before front n back h = rw (row_none front n back 1 h)

-- a number that is not declared: it is not the first, and not declared behind it
free_first : (m : ℕ) (ns : List ℕ) (n row : ℕ) → 1 ≤ row → leb 1 (row_from (m ∷ ns) n row) ≡ false → (eqb m n ≡ false) × (leb 1 (row_from ns n (row + 1)) ≡ false)
unfolding row_from
free_first m ns n row l h = bool_cases (eqb m n)
    (λ e. never_both (le-leb 1 row l) (rw (e, row_from) at h))
    (λ e. (e, rw (e, row_from) at h))

has_last : (m n : ℕ) (ns : List ℕ) → has m ns ≡ false → eqb m n ≡ false → has m (ns ++ (n ∷ [])) ≡ false
unfolding has
has_last m n [] h e = rw (e, has) refl
has_last m n (x ∷ ns) h e = bool_cases (eqb m x)
    (λ s. never_both refl (rw (s, has) at h))
    (λ s. rw (s, has) (has_last m n ns (rw (s, has) at h) e))

once_from : (ns : List ℕ) (n row : ℕ) → 1 ≤ row → once ns ≡ true → leb 1 (row_from ns n row) ≡ false → once (ns ++ (n ∷ [])) ≡ true
unfolding once has
once_from [] n row l o h = refl
once_from (m ∷ ns) n row l o h =
    let p = and_true (not (has m ns)) (once ns) o in
    let f = free_first m ns n row l h in
    true_and _ _ (not_of_false _ (has_last m n ns (not_true _ p.0) f.0)) (once_from ns n (row + 1) (omega arith) p.1 f.1)

-- with one more that is not declared
pub once_last : (ns : List ℕ) (n : ℕ) → once ns ≡ true → declares ns n ≡ false → once (ns ++ (n ∷ [])) ≡ true
once_last ns n o h = once_from ns n 1 (omega arith) o h
