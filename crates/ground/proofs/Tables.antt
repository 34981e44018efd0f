-- A rule of a constant table: one test that is computed over the whole table gives the rule at each entry.
use mathlib.Core.Path.{◌≡◌, sym, ◌∙◌, subst}
use mathlib.Core.Bool.{Bool, true, ◌&&◌}
use mathlib.Core.List.{List, [], ◌∷◌}
use Prim.Native.Nat.{ℕ, zero, suc, ◌+◌, ◌<◌}
use native.Mathlib.Nat.{add-zero, zero-add, add-suc, suc-add, le_of_suc-le-suc, not-suc-le-zero}
use lib.Dec.{T, eqb, eqb→eq}
use lib.ListN.{length, get_or}
use Rattle.ground.proofs.Bools.{and_first, and_second}

-- the test f passes at each entry of the list and its place, counted from i
abbrev pub every : {A : Type 0} → (ℕ → A → Bool) → ℕ → List A → Bool
every f i [] = true
every f i (x ∷ xs) = f i x && every f (suc i) xs

from : {A : Type 0} (f : ℕ → A → Bool) (xs : List A) (d : A) (i : ℕ) → T (every f i xs) → (k : ℕ) → k < length xs → T (f (i + k) (get_or xs k d))
from f [] d i t k h = absurd (not-suc-le-zero h)
from f (x ∷ xs) d i t zero h = subst (λ (m : ℕ). T (f m x)) (sym (add-zero i)) (and_first (f i x) (every f (suc i) xs) t)
from f (x ∷ xs) d i t (suc k) h =
    subst (λ (m : ℕ). T (f m (get_or xs k d))) (suc-add i k ∙ sym (add-suc i k))
    (from f xs d (suc i) (and_second (f i x) (every f (suc i) xs) t) k (le_of_suc-le-suc h))

-- a test that passes over the table passes at each of its places
pub at : {A : Type 0} (f : ℕ → A → Bool) (xs : List A) (d : A) → T (every f 0 xs) → (k : ℕ) → k < length xs → T (f k (get_or xs k d))
at f xs d t k h = subst (λ (m : ℕ). T (f m (get_or xs k d))) (zero-add k) (from f xs d 0 t k h)

-- each entry is what f gives at its place
abbrev pub agrees : (ℕ → ℕ) → List ℕ → Bool
agrees f xs = every (λ k x. eqb x (f k)) 0 xs

-- the rule of the table at a place: `table_rule f table tt k h`
pub table_rule : (f : ℕ → ℕ) (xs : List ℕ) → T (agrees f xs) → (k : ℕ) → k < length xs → get_or xs k 0 ≡ f k
table_rule f xs t k h = eqb→eq (get_or xs k 0) (f k) (at (λ k x. eqb x (f k)) xs 0 t k h)
