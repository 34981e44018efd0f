-- The rest of a text from a place on: how loops over text go on and end.
use mathlib.Core.Path.{◌≡◌}
use mathlib.Core.List.{List, [], ◌∷◌, ◌++◌}
use Prim.Native.Nat.{ℕ, ◌+◌, ◌<◌, ◌≤◌}
use native.Mathlib.Numerals.{add-one}
use lib.ListN.{length, take, drop, get_or, drop_of_length-le, get_or-eq_default}
use lib.Seq.{drop-cons, take-suc, drop-drop}

-- the rest at a place of the text is the word there and the rest past it
pub rest_cons : (s : List ℕ) (i : ℕ) → i < length s → drop i s ≡ get_or s i 0 ∷ drop (i + 1) s
rest_cons s i h = rw add-one (drop-cons s i 0 h)

-- at the end and past it nothing is left
pub rest_end : {A : Type 0} (s : List A) (i : ℕ) → length s ≤ i → drop i s ≡ []
rest_end s i h = drop_of_length-le s h

-- and 0 is read there
pub past_zero : (s : List ℕ) (i : ℕ) → length s ≤ i → get_or s i 0 ≡ 0
past_zero s i h = get_or-eq_default s 0 h

-- the rest of a rest
pub rest_rest : {A : Type 0} (s : List A) (i n : ℕ) → drop n (drop i s) ≡ drop (i + n) s
rest_rest s i n = drop-drop n i s

-- the front grows by the word at its end
pub front_more : (s : List ℕ) (i : ℕ) → i < length s → take (i + 1) s ≡ take i s ++ (get_or s i 0 ∷ [])
front_more s i h = rw add-one (take-suc s i 0 h)
