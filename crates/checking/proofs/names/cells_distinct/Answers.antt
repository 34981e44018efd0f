use Prim.Native.Nat.{◌-◌}
use native.Mathlib.Omega.{arith}
use mathlib.Core.Path.{sym, ◌∙◌}
use Rattle.checking.proofs.Laws.{cell_twice, cell_once}
use Rattle.checking.proofs.Marking.{cells_start, cells_back, cells_still, cells_early, cells_first}
use Rattle.checking.proofs.names.cells_distinct.Goals as goal

pub loop-i-init : goal.loop-i-init
loop-i-init c = let a = c.args in let s = cells_start a.strings.now a.kind a.n a.cells.now a.seen.now c.requires.1 in (omega arith, s.0, s.1)

pub cell_again-requires : goal.cell_again-requires
cell_again-requires c = let a = c.args in let p = c.loop-i in (omega (arith, p.invariant.0), c.requires.0, cells_back a.strings.now a.kind a.n a.cells.now p.seen p.i c.loop-i-test.true p.invariant.1)

pub returns-then-cell_again : goal.returns-then-cell_again
returns-then-cell_again c = let a = c.args in let p = c.loop-i in cells_early a.strings.now a.kind a.n a.cells.now (p.i - 1) (omega (arith, p.invariant.0)) (cell_twice a.strings.now a.kind a.n (p.i - 1) a.cells.now (omega (arith, p.invariant.0)) (sym c.if-cell_again.true ∙ c.cell_again.ensures.0))

pub loop-i-preserved : goal.loop-i-preserved
loop-i-preserved c = let a = c.args in let p = c.loop-i in (omega (arith, p.invariant.0), c.cell_again.ensures.1, sym (cell_once a.strings.now a.kind a.n (p.i - 1) a.cells.now (omega (arith, p.invariant.0)) (sym c.if-cell_again.false ∙ c.cell_again.ensures.0)) ∙ cells_still a.strings.now a.kind a.n a.cells.now p.seen p.i c.loop-i-test.true p.invariant.2)

pub returns : goal.returns
returns c = let a = c.args in let p = c.loop-i in cells_first a.strings.now a.kind a.n a.cells.now p.i c.loop-i-test.false p.invariant.2
