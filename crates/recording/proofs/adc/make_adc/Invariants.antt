use lib.ListN.{drop}
use Rattle.cells.specs.Records.{adc_made}
use Rattle.recording.proofs.Left.{Left}
use Rattle.recording.proofs.adc.make_adc.Given as goal

abbrev pub invariant-loop-i : goal.invariant-loop-i
invariant-loop-i l = Left (adc_made l.k l.a l.b l.first) l.k l.initial.list l.initial.outs (adc_made l.next (drop l.i l.a) (drop l.i l.b) l.carry) l.next l.i l.list l.outs
