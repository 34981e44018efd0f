use native.Mathlib.Omega.{arith}
use mathlib.Core.Path.{◌∙◌}
use Rattle.cells.specs.Held.{held_runs}
use Rattle.translating.proofs.Rowing.{rowed_none, rowed_room, rowed_more, rowed_all, rowed_slots}
use Rattle.translating.proofs.rows.make_rows.Goals as goal

pub loop-i-init : goal.loop-i-init
loop-i-init c = let a = c.args in (omega arith, rowed_none a.cells.now (held_runs a.runs.now a.trits.now) a.starts.now a.order.now a.count a.from a.list.now a.slots.now)

pub make_row-k-requires : goal.make_row-k-requires
make_row-k-requires c = let p = c.requires in let l = c.loop-i in let a = c.args in let e = c.word_of-row.ensures.0 in (rw e (p.1 l.i c.loop-i-test.true), rowed_room l.invariant.1 p.0 c.loop-i-test.true _ e p.2, l.invariant.1.wide ∙ p.3)

pub loop-i-preserved : goal.loop-i-preserved
loop-i-preserved c = let p = c.requires in let l = c.loop-i in (omega arith, rowed_more l.invariant.1 p.0 c.loop-i-test.true _ c.word_of-row.ensures.0 c.make_row-k.ensures.0 c.make_row-k.ensures.1)

pub shape_of-list : goal.shape_of-list
shape_of-list c = c.loop-i.invariant.1.lists.long

pub shape_of-slots : goal.shape_of-slots
shape_of-slots c = c.loop-i.invariant.1.wide

pub returns : goal.returns
returns c = (rowed_all c.loop-i.invariant.1 c.loop-i-test.false, rowed_slots c.loop-i.invariant.1 c.loop-i-test.false)
