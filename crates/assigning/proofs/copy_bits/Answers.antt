use Rattle.assigning.proofs.Laws.{copied_more, copied_all}
use lib.Seq.{length-sets}
use native.Mathlib.Omega.{arith}
use mathlib.Core.Path.{refl}
use Prim.Native.Nat.{◌-◌}
use Rattle.assigning.proofs.copy_bits.Goals as goal

pub loop-i-init : goal.loop-i-init
loop-i-init c = refl

pub bounds-to-place : goal.bounds-to-place
bounds-to-place c = rw c.loop-i.invariant (simp length-sets (omega arith))

pub loop-i-smaller : goal.loop-i-smaller
loop-i-smaller c = omega arith

pub loop-i-preserved : goal.loop-i-preserved
loop-i-preserved c = let a = c.args in let p = c.loop-i in copied_more a.from.now a.at a.size c.requires.0 p.to a.to.now a.place p.i c.loop-i-test.true p.invariant

pub shape_of-to : goal.shape_of-to
shape_of-to c = rw c.loop-i.invariant (simp length-sets refl)

pub returns : goal.returns
returns c = let a = c.args in let p = c.loop-i in copied_all a.from.now a.at a.size c.requires.0 p.to a.to.now a.place p.i c.loop-i-test.false p.invariant
