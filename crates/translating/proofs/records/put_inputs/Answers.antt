use native.Mathlib.Omega.{arith}
use Rattle.translating.proofs.Listing.{left_from, left_on, left_none, inputs_on, inputs_end, inputs_start}
use Rattle.translating.proofs.records.put_inputs.Goals as goal

pub loop-i-init : goal.loop-i-init
loop-i-init c = (omega arith, left_from (inputs_start c.args.count))

pub put-requires : goal.put-requires
put-requires c = omega (arith, c.loop-i.invariant.1.long)

pub loop-i-preserved : goal.loop-i-preserved
loop-i-preserved c = let l = c.loop-i in (omega arith, left_on l.invariant.1 (inputs_on l.i c.args.count c.loop-i-test.true) c.put.ensures (omega arith))

pub shape_of-list : goal.shape_of-list
shape_of-list c = c.loop-i.invariant.1.long

pub returns : goal.returns
returns c = left_none c.loop-i.invariant.1 (inputs_end c.loop-i.i c.args.count c.loop-i-test.false)
