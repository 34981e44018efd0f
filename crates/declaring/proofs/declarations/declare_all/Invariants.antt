use mathlib.Core.Path.{◌≡◌}
use Prim.Native.Nat.{◌+◌, ◌-◌}
use lib.ListN.{length}
use Rattle.declaring.proofs.Declaring.{Going}
use Rattle.declaring.proofs.declarations.declare_all.Given as goal

abbrev pub invariant-loop-done : goal.invariant-loop-done
invariant-loop-done l = (length l.rows ≡ length l.initial.rows) × (length l.bits ≡ length l.initial.bits) × (length l.work ≡ length l.initial.work) × (length l.seen ≡ length l.initial.seen) × Going l.text (length l.text + 1 - l._done) l.reader.next.at l.n l.rows l.bits l.work l.seen
