use lib.ListN.{drop}
use mathlib.Core.List.{[]}
use Rattle.cells.specs.Records.{made}
use Rattle.recording.proofs.Left.{Left}
use Rattle.recording.proofs.buffer.make_buf.Given as goal

abbrev pub invariant-loop-i : goal.invariant-loop-i
invariant-loop-i l = Left (made [] l.a) l.k l.list l.initial.outs (made [] (drop l.i l.a)) l.k l.i l.list l.outs
