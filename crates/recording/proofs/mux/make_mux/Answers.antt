use native.Mathlib.Omega.{arith}
use mathlib.Core.Path.{refl}
use Rattle.recording.proofs.Bits.{mux_first}
use Rattle.recording.proofs.Left.{puts_then, puts_length, left_whole, step_room, left_quiet, left_room, left_called, left_small}
use Rattle.recording.proofs.mux.make_mux.Goals as goal

pub put-n-requires : goal.put-n-requires
put-n-requires c =
    let s = c in
    let r = step_room (mux_first s.args.k s.args.s s.args.a.now s.args.b.now) (left_whole s.requires) in
    (omega (arith, r.0), omega (arith, r.1))

pub overflow_add-k : goal.overflow_add-k
overflow_add-k c =
    let s = c in
    let r = step_room (mux_first s.args.k s.args.s s.args.a.now s.args.b.now) (left_whole s.requires) in
    omega (arith, r.0)

pub put-x-requires : goal.put-x-requires
put-x-requires c =
    let s = c in
    let r = step_room (mux_first s.args.k s.args.s s.args.a.now s.args.b.now) (left_whole s.requires) in
    let long = puts_length c.put-n.ensures.1 in
    (omega (arith, r.0), omega (arith, r.1))

pub mux_bits-requires : goal.mux_bits-requires
mux_bits-requires c =
    let s = c in
    let p = c.put-n.ensures in
    let q = c.put-x.ensures in
    rw (p.0, q.0) (left_room (left_quiet (mux_first s.args.k s.args.s s.args.a.now s.args.b.now) (left_whole s.requires) (puts_then p.1 refl q.1) refl))

pub overflow_add-result : goal.overflow_add-result
overflow_add-result c =
    let s = c in
    let p = c.put-n.ensures in
    let q = c.put-x.ensures in
    let r = left_small (left_quiet (mux_first s.args.k s.args.s s.args.a.now s.args.b.now) (left_whole s.requires) (puts_then p.1 refl q.1) refl) (rw (p.0, q.0) at c.mux_bits.ensures) in
    omega arith

pub returns : goal.returns
returns c =
    let s = c in
    let p = c.put-n.ensures in
    let q = c.put-x.ensures in
    left_called (left_quiet (mux_first s.args.k s.args.s s.args.a.now s.args.b.now) (left_whole s.requires) (puts_then p.1 refl q.1) refl) (rw (p.0, q.0) at c.mux_bits.ensures) (omega arith)
