use native.Mathlib.Omega.{arith}
use mathlib.Core.Path.{refl}
use Rattle.translating.proofs.Listing.{numbers_none, numbers_more, numbers_all}
use Rattle.translating.proofs.records.number_slots.Goals as goal

pub loop-i-init : goal.loop-i-init
loop-i-init c = (omega arith, numbers_none c.args.slots.now c.args.place c.args.first c.args.size)

pub bounds-slots-place : goal.bounds-slots-place
bounds-slots-place c = omega (arith, c.loop-i.invariant.1.long)

pub loop-i-preserved : goal.loop-i-preserved
loop-i-preserved c = let l = c.loop-i in (omega arith, numbers_more c.args.first c.args.size l.i l.invariant.1 _ c.loop-i-test.true refl)

pub shape_of-slots : goal.shape_of-slots
shape_of-slots c = c.loop-i.invariant.1.long

pub returns : goal.returns
returns c = numbers_all c.args.first c.args.size c.loop-i.i c.loop-i.invariant.1 c.loop-i-test.false
