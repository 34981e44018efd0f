use lib.ListN.{drop}
use Rattle.cells.specs.Records.{mux_from}
use Rattle.recording.proofs.Left.{Left}
use Rattle.recording.proofs.mux.mux_bits.Given as goal

abbrev pub invariant-loop-i : goal.invariant-loop-i
invariant-loop-i l = Left (mux_from l.s l.n l.x l.k l.a l.b) l.k l.initial.list l.initial.outs (mux_from l.s l.n l.x l.next (drop l.i l.a) (drop l.i l.b)) l.next l.i l.list l.outs
