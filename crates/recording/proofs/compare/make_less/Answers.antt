use native.Mathlib.Omega.{arith}
use mathlib.Core.Path.{◌≡◌, refl}
use Rattle.recording.proofs.Bits.{less_on, less_top, less_end}
use Rattle.recording.proofs.Left.{puts_nothing, left_whole, step_room, left_quiet, left_bit, left_none}
use Rattle.recording.proofs.compare.make_less.Goals as goal

pub loop-i-init : goal.loop-i-init
loop-i-init c = left_whole c.requires

pub put_below-carry-requires : goal.put_below-carry-requires
put_below-carry-requires c =
    let s = c in
    let l = c.loop-i in
    let r = step_room (less_on s.args.a.now s.args.b.now l.i s.args.kind l.next l.carry (omega arith)) l.invariant in
    (r.0, r.1)

pub overflow_add-next : goal.overflow_add-next
overflow_add-next c =
    let s = c in
    let l = c.loop-i in
    let r = step_room (less_on s.args.a.now s.args.b.now l.i s.args.kind l.next l.carry (omega arith)) l.invariant in
    omega (arith, r.0)

pub loop-i-preserved : goal.loop-i-preserved
loop-i-preserved c =
    let s = c in
    let l = c.loop-i in
    let p = c.put_below-carry.ensures in
    rw p.0 (left_quiet (less_on s.args.a.now s.args.b.now l.i s.args.kind l.next l.carry (omega arith)) l.invariant p.1 refl)

pub put_top-requires : goal.put_top-requires
put_top-requires c =
    let s = c in
    let l = c.loop-i in
    let e : l.i ≡ c.low_bits-low.result = omega arith in
    let inv = rw e at l.invariant in
    let r = step_room (less_top s.args.a.now s.args.b.now c.low_bits-low.result s.args.kind l.next l.carry (omega arith) (omega arith)) inv in
    (r.0, r.1)

pub bounds-outs-0 : goal.bounds-outs-0
bounds-outs-0 c =
    let s = c in
    let l = c.loop-i in
    let e : l.i ≡ c.low_bits-low.result = omega arith in
    let inv = rw e at l.invariant in
    let r = step_room (less_top s.args.a.now s.args.b.now c.low_bits-low.result s.args.kind l.next l.carry (omega arith) (omega arith)) inv in
    omega (arith, r.2)

pub overflow_add-result : goal.overflow_add-result
overflow_add-result c =
    let s = c in
    let l = c.loop-i in
    let e : l.i ≡ c.low_bits-low.result = omega arith in
    let inv = rw e at l.invariant in
    let r = step_room (less_top s.args.a.now s.args.b.now c.low_bits-low.result s.args.kind l.next l.carry (omega arith) (omega arith)) inv in
    omega (arith, r.0)

pub overflow_sub-result : goal.overflow_sub-result
overflow_sub-result c = omega (arith, c.loop-i.invariant.since)

pub shape_of-list-then-low-shared : goal.shape_of-list-then-low-shared
shape_of-list-then-low-shared c =
    let s = c in
    let l = c.loop-i in
    let e : l.i ≡ c.low_bits-low.result = omega arith in
    let inv = rw e at l.invariant in
    let p = c.put_top.ensures in
    (left_bit (less_top s.args.a.now s.args.b.now c.low_bits-low.result s.args.kind l.next l.carry (omega arith) (omega arith)) inv p.1 refl p.0).long

pub returns-then-low-shared : goal.returns-then-low-shared
returns-then-low-shared c =
    let s = c in
    let l = c.loop-i in
    let e : l.i ≡ c.low_bits-low.result = omega arith in
    let inv = rw e at l.invariant in
    let p = c.put_top.ensures in
    left_none refl (left_bit (less_top s.args.a.now s.args.b.now c.low_bits-low.result s.args.kind l.next l.carry (omega arith) (omega arith)) inv p.1 refl p.0) refl

pub bounds-outs-0-2 : goal.bounds-outs-0-2
bounds-outs-0-2 c =
    let s = c in
    let l = c.loop-i in
    let e : l.i ≡ c.low_bits-low.result = omega arith in
    let inv = rw e at l.invariant in
    let r = step_room (less_end s.args.a.now s.args.b.now c.low_bits-low.result s.args.kind l.next l.carry (omega arith)) inv in
    omega (arith, r.2)

pub overflow_sub-result-2 : goal.overflow_sub-result-2
overflow_sub-result-2 c = omega (arith, c.loop-i.invariant.since)

pub shape_of-list : goal.shape_of-list
shape_of-list c = c.loop-i.invariant.long

pub returns : goal.returns
returns c =
    let s = c in
    let l = c.loop-i in
    let e : l.i ≡ c.low_bits-low.result = omega arith in
    let inv = rw e at l.invariant in
    left_none refl (left_bit (less_end s.args.a.now s.args.b.now c.low_bits-low.result s.args.kind l.next l.carry (omega arith)) inv (puts_nothing _ _) (omega arith) refl) refl
