use Prim.Native.Nat.{◌+◌, ◌*◌}
use Rattle.assigning.proofs.Laws.{assigned_none, assign_taken, assign_bits, assign_room, assigned_more, assigned_all}
use native.Mathlib.Omega.{arith}
use mathlib.Core.Path.{refl}
use Prim.Native.Nat.{◌-◌}
use Rattle.assigning.proofs.assign.Goals as goal

pub loop-i-init : goal.loop-i-init
loop-i-init c = assigned_none c.args.rows.now c.args.n c.args.ins.now c.args.values.now

pub overflow_cast-w : goal.overflow_cast-w
overflow_cast-w c = omega (arith, c.shared_slice_known-in-loop-i-1.given (c.loop-i.i * 9 + 1))

pub copy_bits-requires : goal.copy_bits-requires
copy_bits-requires c = let p = c.loop-i.invariant in let h = c.loop-i-test.true in let k = c.requires in (omega (arith, assign_taken p _ _ refl c.input_width-taken.ensures h), omega (arith, p.long, assign_room p _ _ refl c.input_width-taken.ensures h))

pub overflow_add-start : goal.overflow_add-start
overflow_add-start c = omega (arith, assign_bits c.loop-i.invariant _ _ refl c.input_width-taken.ensures c.loop-i-test.true, c.requires)

pub overflow_add-at : goal.overflow_add-at
overflow_add-at c = omega (arith, assign_taken c.loop-i.invariant _ _ refl c.input_width-taken.ensures c.loop-i-test.true, c.requires)

pub loop-i-smaller : goal.loop-i-smaller
loop-i-smaller c = omega arith

pub loop-i-preserved : goal.loop-i-preserved
loop-i-preserved c = assigned_more c.loop-i.invariant _ _ refl c.input_width-taken.ensures c.loop-i-test.true _ c.copy_bits.ensures

pub shape_of-values : goal.shape_of-values
shape_of-values c = c.loop-i.invariant.long

pub returns : goal.returns
returns c = assigned_all c.loop-i.invariant c.loop-i-test.false
