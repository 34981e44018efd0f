use native.Mathlib.Omega.{arith}
use Rattle.cells.specs.Held.{held_runs}
use Rattle.assigning.proofs.Laws.{total_start, total_more, total_end}
use Rattle.translating.specs.InTables.{row_sum}
use Rattle.translating.proofs.sum.sum_records.Goals as goal

pub loop-i-init : goal.loop-i-init
loop-i-init c = let a = c.args in (omega arith, omega (arith, total_start (row_sum (held_runs a.runs.now a.trits.now)) a.cells.now a.n), omega arith)

pub row_records-sum-requires : goal.row_records-sum-requires
row_records-sum-requires c = (c.requires.0, omega arith, c.requires.2 c.loop-i.i c.loop-i-test.true)

pub overflow_add-sum : goal.overflow_add-sum
overflow_add-sum c = omega (arith, c.loop-i.invariant.2, c.row_records-sum.ensures.1)

pub loop-i-preserved : goal.loop-i-preserved
loop-i-preserved c = let a = c.args in let l = c.loop-i in (omega arith, omega (arith, l.invariant.1, c.row_records-sum.ensures.0, total_more (row_sum (held_runs a.runs.now a.trits.now)) a.cells.now a.n l.i c.loop-i-test.true), omega (arith, l.invariant.2, c.row_records-sum.ensures.1))

pub returns : goal.returns
returns c = let a = c.args in let l = c.loop-i in (omega (arith, l.invariant.1, total_end (row_sum (held_runs a.runs.now a.trits.now)) a.cells.now a.n l.i c.loop-i-test.false), omega (arith, l.invariant.2, l.invariant.0))
