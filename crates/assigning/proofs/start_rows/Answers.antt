use Rattle.assigning.proofs.Laws.{started_none, start_room, started_more, started_all}
use native.Mathlib.Omega.{arith}
use Prim.Native.Nat.{◌-◌}
use Rattle.assigning.proofs.start_rows.Goals as goal

pub loop-i-init : goal.loop-i-init
loop-i-init c = started_none c.args.rows.now c.args.n c.args.starts.now

pub bounds-starts-i : goal.bounds-starts-i
bounds-starts-i c = omega (arith, c.loop-i.invariant.long, c.loop-i-test.true, c.requires.2)

pub overflow_add-start-in-loop-i : goal.overflow_add-start-in-loop-i
overflow_add-start-in-loop-i c = omega (arith, start_room c.loop-i.invariant c.loop-i-test.true, c.requires.3)

pub loop-i-smaller : goal.loop-i-smaller
loop-i-smaller c = omega arith

pub loop-i-preserved : goal.loop-i-preserved
loop-i-preserved c = started_more c.loop-i.invariant c.loop-i-test.true

pub shape_of-starts : goal.shape_of-starts
shape_of-starts c = c.loop-i.invariant.long

pub returns : goal.returns
returns c = started_all c.loop-i.invariant c.loop-i-test.false
