use Prim.Native.Nat.{◌+◌, ◌-◌}
use Rattle.checkcells.specs.Runs.{widths_in}
use Rattle.checkcells.proofs.Laws.{Walking}
use Rattle.checkcells.proofs.runs.operand_of.Given as goal

abbrev pub invariant-loop-i : goal.invariant-loop-i
invariant-loop-i l = Walking (widths_in l.n l.cells) l.bits l.runs l.first l.count l.b (l.count - l.i) (l.first + l.i) l.e l.w
