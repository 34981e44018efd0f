-- The contract of a line allows one outcome.
use mathlib.Core.Path.{◌≡◌}
use mathlib.Core.List.{List}
use Prim.Native.Nat.{ℕ}
use Rattle.ground.proofs.Outcome.{any_two}
use Rattle.loadlist.specs.declared.Record.{Record}
use Rattle.hexlines.specs.Lines.{line_of}

pub line_one : (r : Record) (a b : List ℕ) → a ≡ line_of r → b ≡ line_of r → a ≡ b
line_one = any_two line_of
