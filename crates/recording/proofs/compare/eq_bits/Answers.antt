use native.Mathlib.Omega.{arith}
use mathlib.Core.Path.{refl}
use Rattle.recording.proofs.Bits.{eq_on, eq_end}
use Rattle.recording.proofs.Left.{puts_then, puts_length, left_whole, step_room, left_quiet, left_bit, left_none}
use Rattle.recording.proofs.compare.eq_bits.Goals as goal

pub loop-i-init : goal.loop-i-init
loop-i-init c = left_whole c.requires

pub put-differs-requires : goal.put-differs-requires
put-differs-requires c =
    let s = c in
    let l = c.loop-i in
    let r = step_room (eq_on s.args.a.now s.args.b.now l.i l.next (omega arith) l.sum) l.invariant in
    (omega (arith, r.0), omega (arith, r.1))

pub overflow_add-next : goal.overflow_add-next
overflow_add-next c =
    let s = c in
    let l = c.loop-i in
    let r = step_room (eq_on s.args.a.now s.args.b.now l.i l.next (omega arith) l.sum) l.invariant in
    omega (arith, r.0)

pub put-sum-requires : goal.put-sum-requires
put-sum-requires c =
    let s = c in
    let l = c.loop-i in
    let r = step_room (eq_on s.args.a.now s.args.b.now l.i l.next (omega arith) l.sum) l.invariant in
    let long = puts_length c.put-differs.ensures.1 in
    (omega (arith, r.0), omega (arith, r.1))

pub overflow_add-next-in-loop-i : goal.overflow_add-next-in-loop-i
overflow_add-next-in-loop-i c =
    let s = c in
    let l = c.loop-i in
    let r = step_room (eq_on s.args.a.now s.args.b.now l.i l.next (omega arith) l.sum) l.invariant in
    omega (arith, r.0)

pub loop-i-preserved : goal.loop-i-preserved
loop-i-preserved c =
    let s = c in
    let l = c.loop-i in
    let p = c.put-differs.ensures in
    let q = c.put-sum.ensures in
    rw q.0 (left_quiet (eq_on s.args.a.now s.args.b.now l.i l.next (omega arith) l.sum) l.invariant (puts_then p.1 refl (rw p.0 at q.1)) refl)

pub put-requires : goal.put-requires
put-requires c =
    let s = c in
    let l = c.loop-i in
    let r = step_room (eq_end s.args.a.now s.args.b.now l.i l.next (omega arith) l.sum) l.invariant in
    (omega (arith, r.0), omega (arith, r.1))

pub bounds-outs-0 : goal.bounds-outs-0
bounds-outs-0 c =
    let s = c in
    let l = c.loop-i in
    let r = step_room (eq_end s.args.a.now s.args.b.now l.i l.next (omega arith) l.sum) l.invariant in
    omega (arith, r.2)

pub overflow_add-result : goal.overflow_add-result
overflow_add-result c =
    let s = c in
    let l = c.loop-i in
    let r = step_room (eq_end s.args.a.now s.args.b.now l.i l.next (omega arith) l.sum) l.invariant in
    omega (arith, r.0)

pub overflow_sub-result : goal.overflow_sub-result
overflow_sub-result c = omega (arith, c.loop-i.invariant.since)

pub shape_of-list : goal.shape_of-list
shape_of-list c =
    let s = c in
    let l = c.loop-i in
    let p = c.put.ensures in
    (left_bit (eq_end s.args.a.now s.args.b.now l.i l.next (omega arith) l.sum) l.invariant p.1 refl p.0).long

pub returns : goal.returns
returns c =
    let s = c in
    let l = c.loop-i in
    let p = c.put.ensures in
    left_none refl (left_bit (eq_end s.args.a.now s.args.b.now l.i l.next (omega arith) l.sum) l.invariant p.1 refl p.0) refl
