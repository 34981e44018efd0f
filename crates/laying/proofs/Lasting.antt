-- What the tests of the last row tell.
-- Assumes nothing.
use mathlib.Core.Path.{◌≡◌, refl}
use mathlib.Core.Bool.{true}
use mathlib.Core.List.{List}
use Prim.Native.Nat.{ℕ, ◌<◌}
use lib.Dec.{ltb}
use borrow.Author.Tests.{ltb-true}
use Rattle.ground.proofs.Bools.{bool_cases, never_both}
use Rattle.laying.specs.Growing.{last_is, last_is_from}

-- an operand whose last run is so has a run
pub last_some : (runs : List ℕ) (first n head : ℕ) → last_is runs first n head ≡ true → first < n
last_some runs first n head h = bool_cases (ltb first n) (λ e. ltb-true first n e) (λ e. never_both (rw e at h) refl)

pub last_from_some : (runs : List ℕ) (first n head from : ℕ) → last_is_from runs first n head from ≡ true → first < n
last_from_some runs first n head from h =
    bool_cases (last_is runs first n head) (λ e. last_some runs first n head e) (λ e. never_both (rw e at h) refl)
