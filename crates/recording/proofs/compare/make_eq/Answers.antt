use native.Mathlib.Omega.{arith}
use mathlib.Core.Path.{refl}
use Rattle.recording.proofs.Bits.{eq_first, eq_none}
use Rattle.recording.proofs.Left.{left_whole, step_room, left_quiet, left_none, left_room, left_called, left_small}
use Rattle.recording.proofs.compare.make_eq.Goals as goal

pub returns-then-shared-lt1 : goal.returns-then-shared-lt1
returns-then-shared-lt1 c =
    let s = c in
    left_none (eq_none s.args.k s.args.a.now s.args.b.now (omega arith)) (left_whole s.requires) (omega arith)

pub put-first-requires : goal.put-first-requires
put-first-requires c =
    let s = c in
    let r = step_room (eq_first s.args.k s.args.a.now s.args.b.now (omega arith)) (left_whole s.requires) in
    (omega (arith, r.0), omega (arith, r.1))

pub eq_bits-requires : goal.eq_bits-requires
eq_bits-requires c =
    let s = c in
    let p = c.put-first.ensures in
    rw p.0 (left_room (left_quiet (eq_first s.args.k s.args.a.now s.args.b.now (omega arith)) (left_whole s.requires) p.1 refl))

pub overflow_add-result : goal.overflow_add-result
overflow_add-result c =
    let s = c in
    let p = c.put-first.ensures in
    let r = left_small (left_quiet (eq_first s.args.k s.args.a.now s.args.b.now (omega arith)) (left_whole s.requires) p.1 refl) (rw p.0 at c.eq_bits.ensures) in
    omega arith

pub returns : goal.returns
returns c =
    let s = c in
    let p = c.put-first.ensures in
    left_called (left_quiet (eq_first s.args.k s.args.a.now s.args.b.now (omega arith)) (left_whole s.requires) p.1 refl) (rw p.0 at c.eq_bits.ensures) (omega arith)
