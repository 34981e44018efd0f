use native.Mathlib.Omega.{arith}
use mathlib.Core.Path.{refl}
use Rattle.recording.proofs.Bits.{not_on, not_end}
use Rattle.recording.proofs.Left.{left_whole, step_room, left_bit, left_none}
use Rattle.recording.proofs.gates.make_not.Goals as goal

pub loop-i-init : goal.loop-i-init
loop-i-init c = left_whole c.requires

pub put-requires : goal.put-requires
put-requires c =
    let l = c.loop-i in
    let r = step_room (not_on c.args.a.now l.i l.next (omega arith)) l.invariant in
    (omega (arith, r.0), omega (arith, r.1))

pub bounds-outs-i : goal.bounds-outs-i
bounds-outs-i c =
    let l = c.loop-i in
    let r = step_room (not_on c.args.a.now l.i l.next (omega arith)) l.invariant in
    omega (arith, r.2)

pub overflow_add-next : goal.overflow_add-next
overflow_add-next c =
    let l = c.loop-i in
    let r = step_room (not_on c.args.a.now l.i l.next (omega arith)) l.invariant in
    omega (arith, r.0)

pub loop-i-preserved : goal.loop-i-preserved
loop-i-preserved c =
    let l = c.loop-i in
    let p = c.put.ensures in
    left_bit (not_on c.args.a.now l.i l.next (omega arith)) l.invariant p.1 refl p.0

pub overflow_sub-result : goal.overflow_sub-result
overflow_sub-result c = omega (arith, c.loop-i.invariant.since)

pub shape_of-list : goal.shape_of-list
shape_of-list c = c.loop-i.invariant.long

pub shape_of-outs : goal.shape_of-outs
shape_of-outs c = c.loop-i.invariant.wide

pub returns : goal.returns
returns c =
    let l = c.loop-i in
    left_none (not_end c.args.a.now l.i l.next (omega arith)) l.invariant refl
