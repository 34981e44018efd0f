use native.Mathlib.Omega.{arith}
use mathlib.Core.Path.{refl}
use Rattle.recording.proofs.Bits.{buf_on, buf_end}
use Rattle.recording.proofs.Left.{left_whole, step_room, puts_nothing, left_bit, left_none}
use Rattle.recording.proofs.buffer.make_buf.Goals as goal

pub loop-i-init : goal.loop-i-init
loop-i-init c = left_whole c.requires

pub bounds-outs-i : goal.bounds-outs-i
bounds-outs-i c =
    let l = c.loop-i in
    let r = step_room (buf_on c.args.a.now l.i (omega arith)) l.invariant in
    omega (arith, r.2)

pub loop-i-preserved : goal.loop-i-preserved
loop-i-preserved c =
    let l = c.loop-i in
    left_bit (buf_on c.args.a.now l.i (omega arith)) l.invariant (puts_nothing _ _) (omega arith) refl

pub shape_of-outs : goal.shape_of-outs
shape_of-outs c = c.loop-i.invariant.wide

pub returns : goal.returns
returns c =
    let l = c.loop-i in
    left_none (buf_end c.args.a.now l.i (omega arith)) l.invariant (omega arith)
