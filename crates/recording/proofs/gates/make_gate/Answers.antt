use native.Mathlib.Omega.{arith}
use mathlib.Core.Path.{refl}
use Rattle.recording.proofs.Bits.{gate_on, gate_end}
use Rattle.recording.proofs.Left.{left_whole, step_room, left_bit, left_none}
use Rattle.recording.proofs.gates.make_gate.Goals as goal

pub loop-i-init : goal.loop-i-init
loop-i-init c = left_whole c.requires

pub put-requires : goal.put-requires
put-requires c =
    let s = c in
    let l = c.loop-i in
    let r = step_room (gate_on s.args.a.now s.args.b.now l.i l.next (omega arith) s.args.op) l.invariant in
    (omega (arith, r.0), omega (arith, r.1))

pub bounds-outs-i : goal.bounds-outs-i
bounds-outs-i c =
    let s = c in
    let l = c.loop-i in
    let r = step_room (gate_on s.args.a.now s.args.b.now l.i l.next (omega arith) s.args.op) l.invariant in
    omega (arith, r.2)

pub overflow_add-next : goal.overflow_add-next
overflow_add-next c =
    let s = c in
    let l = c.loop-i in
    let r = step_room (gate_on s.args.a.now s.args.b.now l.i l.next (omega arith) s.args.op) l.invariant in
    omega (arith, r.0)

pub loop-i-preserved : goal.loop-i-preserved
loop-i-preserved c =
    let s = c in
    let l = c.loop-i in
    let p = c.put.ensures in
    left_bit (gate_on s.args.a.now s.args.b.now l.i l.next (omega arith) s.args.op) l.invariant p.1 refl p.0

pub overflow_sub-result : goal.overflow_sub-result
overflow_sub-result c = omega (arith, c.loop-i.invariant.since)

pub shape_of-list : goal.shape_of-list
shape_of-list c = c.loop-i.invariant.long

pub shape_of-outs : goal.shape_of-outs
shape_of-outs c = c.loop-i.invariant.wide

pub returns : goal.returns
returns c =
    let s = c in
    let l = c.loop-i in
    left_none (gate_end s.args.a.now s.args.b.now l.i l.next (omega arith) s.args.op) l.invariant refl
