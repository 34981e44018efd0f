use lib.ListN.{drop}
use Rattle.cells.specs.Records.{gate_made}
use Rattle.recording.proofs.Left.{Left}
use Rattle.recording.proofs.gates.make_gate.Given as goal

abbrev pub invariant-loop-i : goal.invariant-loop-i
invariant-loop-i l = Left (gate_made l.op l.k l.a l.b) l.k l.initial.list l.initial.outs (gate_made l.op l.next (drop l.i l.a) (drop l.i l.b)) l.next l.i l.list l.outs
