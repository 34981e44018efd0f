use lib.ListN.{drop}
use Rattle.cells.specs.Records.{not_made}
use Rattle.recording.proofs.Left.{Left}
use Rattle.recording.proofs.gates.make_not.Given as goal

abbrev pub invariant-loop-i : goal.invariant-loop-i
invariant-loop-i l = Left (not_made l.k l.a) l.k l.initial.list l.initial.outs (not_made l.next (drop l.i l.a)) l.next l.i l.list l.outs
