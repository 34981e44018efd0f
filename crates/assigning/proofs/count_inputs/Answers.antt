use Rattle.assigning.proofs.Laws.{counted_none, count_room, counted_more, counted_all}
use native.Mathlib.Omega.{arith}
use Prim.Native.Nat.{◌-◌}
use Rattle.assigning.proofs.count_inputs.Goals as goal

pub loop-i-init : goal.loop-i-init
loop-i-init c = counted_none c.args.rows.now c.args.n

pub overflow_add-count : goal.overflow_add-count
overflow_add-count c = omega (arith, count_room c.loop-i.invariant c.input_width-count.result c.input_width-count.ensures c.loop-i-test.true, c.requires.2)

pub loop-i-smaller : goal.loop-i-smaller
loop-i-smaller c = omega arith

pub loop-i-preserved : goal.loop-i-preserved
loop-i-preserved c = counted_more c.loop-i.invariant c.input_width-count.result c.input_width-count.ensures c.loop-i-test.true

pub returns : goal.returns
returns c = counted_all c.loop-i.invariant c.loop-i-test.false
