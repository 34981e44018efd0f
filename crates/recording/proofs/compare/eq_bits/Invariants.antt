use lib.ListN.{drop}
use Rattle.cells.specs.Records.{eq_from}
use Rattle.recording.proofs.Left.{Left}
use Rattle.recording.proofs.compare.eq_bits.Given as goal

abbrev pub invariant-loop-i : goal.invariant-loop-i
invariant-loop-i l = Left (eq_from l.first l.k (drop 1 l.a) (drop 1 l.b)) l.k l.initial.list l.outs (eq_from l.sum l.next (drop l.i l.a) (drop l.i l.b)) l.next 0 l.list l.outs
