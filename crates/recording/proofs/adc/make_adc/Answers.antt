use lib.ListN.{length-set}
use Prim.Native.Nat.{◌+◌}
use native.Mathlib.Omega.{arith}
use mathlib.Core.Path.{◌≡◌, refl}
use Rattle.recording.proofs.Bits.{adc_on, adc_end}
use Rattle.recording.proofs.Left.{puts_nothing, puts_then, puts_length, left_whole, step_room, left_bit, left_none}
use Rattle.recording.proofs.adc.make_adc.Goals as goal

pub loop-i-init : goal.loop-i-init
loop-i-init c = left_whole c.requires

pub put_sum-requires : goal.put_sum-requires
put_sum-requires c =
    let s = c in
    let l = c.loop-i in
    let r = step_room (adc_on s.args.a.now s.args.b.now l.i l.next (omega arith) l.carry) l.invariant in
    (omega (arith, r.0), omega (arith, r.1))

pub bounds-outs-i : goal.bounds-outs-i
bounds-outs-i c =
    let s = c in
    let l = c.loop-i in
    let r = step_room (adc_on s.args.a.now s.args.b.now l.i l.next (omega arith) l.carry) l.invariant in
    omega (arith, r.2)

pub overflow_add-next : goal.overflow_add-next
overflow_add-next c =
    let s = c in
    let l = c.loop-i in
    let r = step_room (adc_on s.args.a.now s.args.b.now l.i l.next (omega arith) l.carry) l.invariant in
    omega (arith, r.0)

pub put_carry-carry-requires : goal.put_carry-carry-requires
put_carry-carry-requires c =
    let s = c in
    let l = c.loop-i in
    let r = step_room (adc_on s.args.a.now s.args.b.now l.i l.next (omega arith) l.carry) l.invariant in
    let long = puts_length c.put_sum.ensures.1 in
    (omega (arith, r.0), omega (arith, r.1))

pub overflow_add-next-in-loop-i : goal.overflow_add-next-in-loop-i
overflow_add-next-in-loop-i c =
    let s = c in
    let l = c.loop-i in
    let r = step_room (adc_on s.args.a.now s.args.b.now l.i l.next (omega arith) l.carry) l.invariant in
    omega (arith, r.0)

pub loop-i-preserved : goal.loop-i-preserved
loop-i-preserved c =
    let s = c in
    let l = c.loop-i in
    let p = c.put_sum.ensures in
    let q = c.put_carry-carry.ensures in
    let e : c.put_carry-carry.result ≡ l.next + 5 = omega arith in
    rw e (left_bit (adc_on s.args.a.now s.args.b.now l.i l.next (omega arith) l.carry) l.invariant (puts_then p.1 refl q.1) refl p.0)

pub bounds-outs-bits : goal.bounds-outs-bits
bounds-outs-bits c =
    let s = c in
    let l = c.loop-i in
    let e : l.i ≡ c.shared-bits.result = omega arith in
    let inv = rw e at l.invariant in
    let r = step_room (adc_end s.args.a.now s.args.b.now c.shared-bits.result l.next (omega arith) l.carry) inv in
    omega (arith, r.2)

pub overflow_sub-result : goal.overflow_sub-result
overflow_sub-result c = omega (arith, c.loop-i.invariant.since)

pub shape_of-list : goal.shape_of-list
shape_of-list c = c.loop-i.invariant.long

pub shape_of-outs : goal.shape_of-outs
shape_of-outs c = simp length-set c.loop-i.invariant.wide

pub returns : goal.returns
returns c =
    let s = c in
    let l = c.loop-i in
    let e : l.i ≡ c.shared-bits.result = omega arith in
    let inv = rw e at l.invariant in
    left_none refl (left_bit (adc_end s.args.a.now s.args.b.now c.shared-bits.result l.next (omega arith) l.carry) inv (puts_nothing _ _) (omega arith) refl) refl
