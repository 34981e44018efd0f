use Prim.Native.Nat.{◌-◌, ◌*◌, ◌≤◌}
use mathlib.Core.Path.{◌≡◌}
use lib.ListN.{length, drop}
use lib.Seq.{sets}
use Rattle.numbering.specs.Numbers.{numbers_by}
use Rattle.numbering.proofs.number_cells.Given as goal

abbrev pub invariant-loop-i : goal.invariant-loop-i
invariant-loop-i l = (length l.numbers ≡ length l.initial.numbers) × (l.number ≤ l.i * 4096) × (sets l.numbers l.i (numbers_by l.number (drop l.i l.widths)) ≡ sets l.initial.numbers 0 (numbers_by 0 l.widths))
