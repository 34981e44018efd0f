-- Rows against a region, word by word; parts of pools whose every element passes a test; facts gathered.
use mathlib.Core.Path.{◌≡◌, refl, sym, ap, ◌∙◌}
use mathlib.Core.Bool.{Bool, true, false}
use mathlib.Core.List.{List, [], ◌∷◌, ◌++◌}
use Prim.Native.Nat.{ℕ, zero, suc, ◌+◌, ◌<◌}
use native.Mathlib.Omega.{arith}
use native.Mathlib.Decide.{dec_lt}
use lib.Dec.{eqb}
use lib.ListN.{length, drop, take, get_or, take-append-drop}
use borrow.Author.Tests.{eqb-true}
use Rattle.ground.specs.Lists.{every, all_of}
use Rattle.ground.specs.Regions.{fits, part}
use Rattle.ground.proofs.Bools.{bool_cases, never_both, every_first, every_more}
use Rattle.ground.proofs.Rest.{rest_cons, rest_end, rest_rest}
use Rattle.ground.proofs.Regions.{fits_on}

-- A ROW'S WORDS, one after the other
pub fits_word : (t : List ℕ) (k x : ℕ) (xs : List ℕ) → k < length t → x ≡ get_or t k 0 → fits (x ∷ xs) (drop k t) ≡ fits xs (drop (k + 1) t)
fits_word t k x xs h e = rw (rest_cons t k h) (fits_on x (get_or t k 0) xs (drop (k + 1) t) e)

pub fits_first : (t : List ℕ) (k x : ℕ) (xs : List ℕ) → fits (x ∷ xs) (drop k t) ≡ true → (x ≡ get_or t k 0) × (fits xs (drop (k + 1) t) ≡ true)
unfolding fits
fits_first t k x xs h = go (dec_lt k (length t))
  where
    go : Dec (k < length t) → (x ≡ get_or t k 0) × (fits xs (drop (k + 1) t) ≡ true)
    go (no p) = never_both (rw (rest_end t k (omega arith)) at h) refl
    go (yes p) = let g : fits (x ∷ xs) (get_or t k 0 ∷ drop (k + 1) t) ≡ true = rw (rest_cons t k p) at h in
        bool_cases (eqb x (get_or t k 0))
        (λ e. (eqb-true x (get_or t k 0) e, rw (e, fits) at g))
        (λ e. never_both (rw (e, fits) at g) refl)

-- POOLS
pub every_drop : {A : Type 0} (p : A → Bool) (k : ℕ) (t : List A) → every p t ≡ true → every p (drop k t) ≡ true
unfolding every
every_drop p zero t h = h
every_drop p (suc k) [] h = h
every_drop p (suc k) (x ∷ t) h = every_drop p k t (every_first p x t h).1

pub every_take : {A : Type 0} (p : A → Bool) (k : ℕ) (t : List A) → every p t ≡ true → every p (take k t) ≡ true
unfolding every
every_take p zero t h = refl
every_take p (suc k) [] h = h
every_take p (suc k) (x ∷ t) h = let f = every_first p x t h in every_more p x (take k t) f.0 (every_take p k t f.1)

pub every_part : {A : Type 0} (p : A → Bool) (s n : ℕ) (t : List A) → every p t ≡ true → every p (part s n t) ≡ true
unfolding part
every_part p s n t h = every_take p n (drop s t) (every_drop p s t h)

-- a part and what stands behind it
pub part_rest : {A : Type 0} (s n : ℕ) (t : List A) → drop s t ≡ part s n t ++ drop (s + n) t
unfolding part
part_rest s n t = sym (take-append-drop n (drop s t)) ∙ ap (λ l. take n (drop s t) ++ l) (rest_rest t s n)

-- of what is told of every element, one at a place; 0 stands past the end
pub every_word : (p : ℕ → Bool) → p 0 ≡ true → (t : List ℕ) → every p t ≡ true → (k : ℕ) → p (get_or t k 0) ≡ true
every_word p z [] h k = z
every_word p z (x ∷ t) h zero = (every_first p x t h).0
every_word p z (x ∷ t) h (suc k) = every_word p z t (every_first p x t h).1 k

-- FACTS, gathered
pub none : all_of [] ≡ true
unfolding all_of
none = refl

-- two tests that follow from each other
pub same_test : (a b : Bool) → (a ≡ true → b ≡ true) → (b ≡ true → a ≡ true) → a ≡ b
same_test true true f g = refl
same_test true false f g = sym (f refl)
same_test false true f g = g refl
same_test false false f g = refl
