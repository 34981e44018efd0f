-- Each answer is determined: two outcomes that the contracts allow are equal.
use Rattle.ground.specs.declared.Refusal.{Refusal}
use Rattle.std.specs.Prelude.{Result}
use mathlib.Core.Path.{◌≡◌}
use mathlib.Core.List.{List}
use Prim.Native.Nat.{ℕ}
use Rattle.ground.proofs.Outcome.{any_two}
use Rattle.netlist.specs.Good.{check_of, lookup_of}

pub check_one : (rows strings bits : List ℕ) (o p : Result (Unit {0}) Refusal) → o ≡ check_of rows strings bits → p ≡ check_of rows strings bits → o ≡ p
check_one rows strings bits = any_two (check_of rows strings) bits

pub lookup_one : (rows strings bits name : List ℕ) (o p : Result (ℕ × ℕ) Refusal) → o ≡ lookup_of rows strings bits name → p ≡ lookup_of rows strings bits name → o ≡ p
lookup_one rows strings bits name = any_two (lookup_of rows strings bits) name
