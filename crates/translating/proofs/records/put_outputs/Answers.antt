use native.Mathlib.Omega.{arith}
use Rattle.translating.proofs.Listing.{left_on, left_none, outputs_on, outputs_end, outputs_begin}
use Rattle.translating.proofs.records.put_outputs.Goals as goal

pub loop-i-init : goal.loop-i-init
loop-i-init c = let a = c.args in (omega arith, outputs_begin a.list.now a.k a.slots.now a.j)

pub put-requires : goal.put-requires
put-requires c = omega (arith, c.loop-i.invariant.1.long)

pub loop-i-preserved : goal.loop-i-preserved
loop-i-preserved c = let l = c.loop-i in let a = c.args in (omega arith, left_on l.invariant.1 (outputs_on a.slots.now l.i a.j c.loop-i-test.true) c.put.ensures (omega arith))

pub shape_of-list : goal.shape_of-list
shape_of-list c = c.loop-i.invariant.1.long

pub returns : goal.returns
returns c = let a = c.args in left_none c.loop-i.invariant.1 (outputs_end a.slots.now c.loop-i.i a.j c.loop-i-test.false)
