-- The public function has one outcome: its contract is one equation.
use Rattle.ground.specs.declared.Refusal.{Refusal}
use Rattle.std.specs.Prelude.{Result}
use mathlib.Core.Path.{◌≡◌}
use mathlib.Core.List.{List}
use Prim.Native.Nat.{ℕ}
use Rattle.ground.proofs.Outcome.{any_two}
use Rattle.scanning.specs.Whole.{whole_of}

pub whole_one : (text : List ℕ) (o p : Result (Unit {0}) Refusal) → o ≡ whole_of text → p ≡ whole_of text → o ≡ p
whole_one = any_two whole_of
