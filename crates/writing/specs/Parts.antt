-- A part of a pool by its two ends.
use Rattle.std.specs.Prelude.{ℕ, ◌-◌, List, take, drop}

-- the elements from i up to e
unfoldable pub up_to : {A : Type 0} → ℕ → ℕ → List A → List A
up_to i e p = take (e - i) (drop i p)
