use Prim.Native.Nat.{◌+◌, ◌-◌, ◌*◌}
use mathlib.Core.Path.{refl, ◌∙◌}
use native.Mathlib.Omega.{arith}
use lib.ListN.{take, drop}
use Rattle.operands.specs.Operands.{held_runs}
use Rattle.celllines.specs.CellLines.{naming}
use Rattle.celllines.proofs.Rows.{slice_row, slice_length, cells_start, cells_turn, cells_end}
use Rattle.celllines.proofs.put_cells.Goals as goal

pub loop-i-init : goal.loop-i-init
loop-i-init c = (refl, cells_start _ _ _ _ _ _ _)

pub put_cell-n-requires : goal.put_cell-n-requires
put_cell-n-requires c = let a = c in let x = c.loop-i.i * 9 in
    (slice_length a.args.rows.now x 9 (omega (arith, a.requires.0, a.requires.1, c.loop-i-test.true)), a.requires.2, a.requires.3)

pub loop-i-preserved : goal.loop-i-preserved
loop-i-preserved c = let a = c.args in let p = c.loop-i in let x = p.i * 9 in (
  c.put_cell-n.auto.room ∙ p.invariant.0,
  cells_turn _ _ (naming a.strings.now) (held_runs a.runs.now a.trits.now) a.rows.now p.i (take (x + 9 - x) (drop x a.rows.now)) c.loop-i-test.true (slice_row a.rows.now x 9) p.invariant.1 c.put_cell-n.ensures,
)

pub returns : goal.returns
returns c = cells_end _ _ _ _ _ _ c.loop-i-test.false c.loop-i.invariant.1
