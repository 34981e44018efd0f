-- The contract of each function allows one outcome.
use mathlib.Core.Path.{◌≡◌}
use mathlib.Core.List.{List}
use Prim.Native.Nat.{ℕ}
use Rattle.ground.proofs.Outcome.{any_two}
use Rattle.printing.specs.Outcome.{print_of}
use Rattle.naming.specs.Names.{name_of}
use Rattle.printlib.specs.Filled.{Filled, printed_of, named_of}

pub print_one : (rows strings trits room : List ℕ) (o p : Filled) → o ≡ printed_of (print_of rows strings trits room) → p ≡ printed_of (print_of rows strings trits room) → o ≡ p
print_one rows strings trits room = any_two (λ (t : List ℕ). printed_of (print_of rows strings trits t)) room

pub name_one : (rows strings trits : List ℕ) (row : ℕ) (room : List ℕ) (o p : Filled) → o ≡ named_of (name_of rows strings trits row room) → p ≡ named_of (name_of rows strings trits row room) → o ≡ p
name_one rows strings trits row room = any_two (λ (t : List ℕ). named_of (name_of rows strings trits row t)) room
