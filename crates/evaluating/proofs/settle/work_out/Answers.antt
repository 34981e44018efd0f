use Rattle.evaluating.proofs.Going.{worked_none, worked_more, worked_all}
use Rattle.valuing.specs.Row.{RowSound}
use Rattle.cells.specs.Held.{held_runs}
use mathlib.Core.Path.{sym, subst, ◌∙◌}
use native.Mathlib.Omega.{arith}
use Rattle.evaluating.proofs.settle.work_out.Goals as goal

pub loop-i-init : goal.loop-i-init
loop-i-init c = let a = c.args in worked_none a.cells.now (held_runs a.runs.now a.trits.now) a.starts.now a.order.now a.count a.values.now

pub word_of-row-requires : goal.word_of-row-requires
word_of-row-requires c = omega (arith, c.loop-i-test.true, c.requires.0)

pub work_row-requires : goal.work_row-requires
work_row-requires c = let a = c.args in (subst (RowSound a.cells.now (held_runs a.runs.now a.trits.now) a.starts.now) (sym c.word_of-row.ensures.0) (c.requires.1 c.loop-i.i c.loop-i-test.true), c.loop-i.invariant.long ∙ c.requires.2)

pub loop-i-smaller : goal.loop-i-smaller
loop-i-smaller c = omega arith

pub loop-i-preserved : goal.loop-i-preserved
loop-i-preserved c = worked_more c.loop-i.invariant c.requires.0 c.loop-i-test.true _ c.word_of-row.ensures.0 _ c.work_row.ensures

pub shape_of-values : goal.shape_of-values
shape_of-values c = c.loop-i.invariant.long

pub returns : goal.returns
returns c = worked_all c.loop-i.invariant c.loop-i-test.false
