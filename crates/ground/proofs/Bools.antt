-- What a Bool's value tells of its parts.
use mathlib.Core.Path.{◌≡◌, refl}
use mathlib.Core.Bool.{Bool, true, false, true≢false, not, ◌&&◌, ◌||◌}
use mathlib.Core.Logic.{◌⊎◌, inl, inr}
use mathlib.Core.List.{List, [], ◌∷◌}
use Prim.Native.Nat.{ℕ, zero, suc, ◌<◌}
use native.Mathlib.Omega.{arith}
use lib.Dec.{T, eqb, leb}
use lib.ListN.{length, get_or}
use borrow.Author.Tests.{le-leb, eqb-false}
use Rattle.ground.specs.Lists.{every, all_of}

-- a proof by the two values of a test, each with what it tells
pub bool_cases : {P : Type 0} (b : Bool) → (b ≡ true → P) → (b ≡ false → P) → P
bool_cases true f g = f refl
bool_cases false f g = g refl

-- no test is both
pub never_both : {P : Type 0} {b : Bool} → b ≡ true → b ≡ false → P
never_both t f = absurd (true≢false (cc))

pub and_true : (a b : Bool) → a && b ≡ true → (a ≡ true) × (b ≡ true)
and_true true b e = (refl, e)
and_true false b e = never_both e refl

pub true_and : (a b : Bool) → a ≡ true → b ≡ true → a && b ≡ true
true_and true b p q = q
true_and false b p q = p

pub and_false : (a b : Bool) → a && b ≡ false → a ≡ true → b ≡ false
and_false true b e f = e
and_false false b e f = never_both f refl

pub or_true : (a b : Bool) → a || b ≡ true → (a ≡ true) ⊎ (b ≡ true)
or_true true b e = inl refl
or_true false b e = inr e

pub or_false : (a b : Bool) → a || b ≡ false → (a ≡ false) × (b ≡ false)
or_false true b e = never_both refl e
or_false false b e = (refl, e)

pub or_left : (a b : Bool) → a ≡ true → a || b ≡ true
or_left true b e = refl
or_left false b e = never_both e refl

pub or_right : (a b : Bool) → b ≡ true → a || b ≡ true
or_right true b e = refl
or_right false b e = e

pub not_of_false : (a : Bool) → a ≡ false → not a ≡ true
not_of_false true e = never_both refl e
not_of_false false e = refl

-- the halves of a computed test
pub and_first : (a b : Bool) → T (a && b) → T a
and_first true b t = tt
and_first false b t = t

pub and_second : (a b : Bool) → T (a && b) → T b
and_second true b t = t
and_second false b t = absurd t

-- one of facts that all hold, by its place
pub fact : (bs : List Bool) → all_of bs ≡ true → (k : ℕ) → get_or bs k true ≡ true
unfolding all_of
fact [] h k = refl
fact (true ∷ bs) h zero = refl
fact (true ∷ bs) h (suc k) = fact bs h k
fact (false ∷ bs) h k = never_both h refl

-- a fact more
pub facts : (b : Bool) (bs : List Bool) → b ≡ true → all_of bs ≡ true → all_of (b ∷ bs) ≡ true
unfolding all_of
facts true bs p q = q
facts false bs p q = p

pub fact_fails : (b : Bool) (bs : List Bool) → b ≡ false → all_of (b ∷ bs) ≡ false
unfolding all_of
fact_fails true bs p = never_both refl p
fact_fails false bs p = refl

-- what holds of every element holds of each
pub every_at : {A : Type 0} (p : A → Bool) (xs : List A) (d : A) → every p xs ≡ true → (i : ℕ) → i < length xs → p (get_or xs i d) ≡ true
unfolding every
every_at p [] d h i l = absurd (omega arith)
every_at p (x ∷ xs) d h zero l = bool_cases (p x) (λ e. e) (λ e. never_both (rw (e, every) at h) refl)
every_at p (x ∷ xs) d h (suc i) l =
    bool_cases (p x) (λ e. every_at p xs d (rw (e, every) at h) i (omega arith)) (λ e. never_both (rw (e, every) at h) refl)

-- .. of the first, and of every further one
pub every_first : {A : Type 0} (p : A → Bool) (x : A) (xs : List A) → every p (x ∷ xs) ≡ true → (p x ≡ true) × (every p xs ≡ true)
unfolding every
every_first p x xs h = bool_cases (p x) (λ e. (e, rw (e, every) at h)) (λ e. never_both (rw (e, every) at h) refl)

pub every_more : {A : Type 0} (p : A → Bool) (x : A) (xs : List A) → p x ≡ true → every p xs ≡ true → every p (x ∷ xs) ≡ true
unfolding every
every_more p x xs e h = rw (e, every) h

-- of no facts all hold
pub no_facts : all_of [] ≡ true
unfolding all_of
no_facts = refl

-- a number that is not 0 is 1 at least
pub some_back : (n : ℕ) → not (eqb n 0) ≡ true → leb 1 n ≡ true
some_back n h = bool_cases (eqb n 0)
    (λ e. never_both (rw e at h) refl)
    (λ e. le-leb 1 n (let f = eqb-false n 0 e in omega arith))
