use Prim.Native.Nat.{◌-◌}
use mathlib.Core.Path.{◌≡◌}
use lib.ListN.{length}
use Rattle.netlist.specs.View.{cells_in}
use Rattle.writing.specs.Stands.{Leaves}
use Rattle.operands.specs.Operands.{held_runs}
use Rattle.celllines.specs.CellLines.{cell_lines, naming}
use Rattle.celllines.proofs.Rows.{lines_from}
use Rattle.celllines.proofs.put_cells.Given as goal

abbrev pub invariant-loop-i : goal.invariant-loop-i
invariant-loop-i l = (length l.room ≡ length l.initial.room) × Leaves l.initial.room l.n-2 (cell_lines l.numbers l.widths l.numbers (cells_in (naming l.strings) (held_runs l.runs l.trits) (length l.numbers) l.rows)) l.room l.n (lines_from l.numbers l.widths (naming l.strings) (held_runs l.runs l.trits) l.rows l.i)
