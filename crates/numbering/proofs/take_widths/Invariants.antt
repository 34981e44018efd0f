use Prim.Native.Nat.{◌-◌, ◌*◌}
use mathlib.Core.Path.{◌≡◌}
use lib.ListN.{length, drop}
use lib.Seq.{sets}
use Rattle.numbering.specs.Numbers.{row_widths}
use Rattle.numbering.proofs.take_widths.Given as goal

abbrev pub invariant-loop-i : goal.invariant-loop-i
invariant-loop-i l = (length l.widths ≡ length l.initial.widths) × (sets l.widths l.i (row_widths (length l.initial.widths - l.i) (drop (l.i * 9) l.rows)) ≡ sets l.initial.widths 0 (row_widths (length l.initial.widths) l.rows))
