use Prim.Native.Nat.{◌+◌, ◌-◌}
use mathlib.Core.Path.{◌≡◌}
use lib.Seq.{sets}
use lib.ListN.{length}
use Rattle.signs.specs.Pieces.{decoded}
use Rattle.decoding.proofs.fill.Given as goal

abbrev pub invariant-loop-done : goal.invariant-loop-done
invariant-loop-done l = (length l.room ≡ length l.initial.room) × (l.done + length (decoded l.text l.i) ≡ l.size) × (sets l.room l.done (decoded l.text l.i) ≡ sets l.initial.room 0 (decoded l.text l.from))
