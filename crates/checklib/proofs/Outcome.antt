-- The contract of each function allows one outcome.
use mathlib.Core.Path.{◌≡◌}
use mathlib.Core.List.{List}
use Prim.Native.Nat.{ℕ}
use Rattle.ground.proofs.Outcome.{any_two}
use Rattle.netlist.specs.Good.{check_of, lookup_of}
use Rattle.textlib.specs.declared.Told.{Told}
use Rattle.checklib.specs.Told.{told_check, told_pad}
use Rattle.checklib.specs.declared.Pad.{Pad}

pub check_one : (rows strings trits : List ℕ) (o p : Told) → o ≡ told_check (check_of rows strings trits) → p ≡ told_check (check_of rows strings trits) → o ≡ p
check_one rows strings trits = any_two (λ (t : List ℕ). told_check (check_of rows strings t)) trits

pub pad_one : (rows strings trits name : List ℕ) (o p : Pad) → o ≡ told_pad (lookup_of rows strings trits name) → p ≡ told_pad (lookup_of rows strings trits name) → o ≡ p
pad_one rows strings trits name = any_two (λ (t : List ℕ). told_pad (lookup_of rows strings trits t)) name
