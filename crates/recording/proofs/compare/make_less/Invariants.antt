use lib.ListN.{drop}
use Rattle.recording.specs.ByKind.{less_made}
use Rattle.recording.proofs.Left.{Left}
use Rattle.recording.proofs.compare.make_less.Given as goal

abbrev pub invariant-loop-i : goal.invariant-loop-i
invariant-loop-i l = Left (less_made l.kind l.k l.a l.b 0) l.k l.initial.list l.outs (less_made l.kind l.next (drop l.i l.a) (drop l.i l.b) l.carry) l.next 0 l.list l.outs
