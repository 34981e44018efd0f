-- How many members lists have that are made of others.
use mathlib.Core.Path.{◌≡◌, refl, ap}
use mathlib.Core.List.{List, [], ◌∷◌, map}
use Prim.Native.Nat.{ℕ, zero, suc, ◌+◌}
use lib.ListN.{length}
use Rattle.ground.specs.Lists.{up_from}

pub length_mapped : {A B : Type 0} (f : A → B) (xs : List A) → length (map f xs) ≡ length xs
length_mapped f [] = refl
length_mapped f (x ∷ xs) = ap suc (length_mapped f xs)

pub length_up : (n k : ℕ) → length (up_from k n) ≡ n
unfolding up_from
length_up zero k = refl
length_up (suc n) k = ap suc (length_up n (k + 1))
