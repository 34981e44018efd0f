use mathlib.Core.Path.{◌≡◌}
use Prim.Native.Nat.{◌+◌}
use lib.ListN.{length}
use Rattle.signs.specs.Pieces.{decoded}
use Rattle.marking.specs.Marks.{mark_from, mark_of}
use Rattle.namemarks.proofs.name_mark.Given as goal

abbrev pub invariant-loop-done : goal.invariant-loop-done
invariant-loop-done l = (l._done + length (decoded l.text l.i) ≡ l.size) × (mark_from l.mark (decoded l.text l.i) ≡ mark_of l.kind (decoded l.text l.from))
