use mathlib.Core.Path.{◌≡◌}
use Prim.Native.Nat.{◌+◌}
use lib.ListN.{length}
use Rattle.ground.specs.Text.{same}
use Rattle.signs.specs.Pieces.{decoded}
use Rattle.taken.proofs.same_string.Given as goal

abbrev pub invariant-loop-done : goal.invariant-loop-done
invariant-loop-done l = (l._done + length (decoded l.text l.i) ≡ l.size) × (l._done + length (decoded l.text l.j) ≡ l.size) × (same (decoded l.text l.i) (decoded l.text l.j) ≡ same (decoded l.text l.a) (decoded l.text l.b))
