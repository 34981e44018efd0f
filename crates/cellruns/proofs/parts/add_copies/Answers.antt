use mathlib.Core.Path.{◌≡◌, refl, sym, ◌∙◌}
use Prim.Native.Nat.{◌+◌, ◌-◌, ◌<◌}
use native.Mathlib.Omega.{arith}
use Rattle.saying.specs.Values.{base_bits, copies}
use Rattle.laying.proofs.Turning.{turned_none, copies_room, copies_turn, copies_stop, copies_end, copies_nothing}
use Rattle.cellruns.proofs.parts.add_copies.Goals as goal

pub returns-then-base_width-eq0 : goal.returns-then-base_width-eq0
returns-then-base_width-eq0 c =
    let s = c in
    let a = s.args in
    copies_nothing a.text.now a.base a.count s.requires.0 (sym c.base_width.ensures ∙ c.if-base_width-eq0.true)

pub loop-done-init : goal.loop-done-init
loop-done-init c =
    let s = c in
    let a = s.args in
    let all : a.count - 0 ≡ a.count = omega arith in
    (refl, refl, rw all (turned_none a.first a.runs.now a.trits.now a.so (copies a.count (base_bits a.text.now a.base))))

pub add_base-requires : goal.add_base-requires
add_base-requires c =
    let s = c in
    let a = s.args in
    let l = c.loop-done in
    let some : 0 < a.count - l._done = omega (arith, c.loop-done-test.true) in
    (s.requires.0, copies_room a.text.now a.base a.count (a.count - l._done) l.invariant.2 some s.requires.0 s.requires.1)

pub shape_of-runs-in_err-used : goal.shape_of-runs-in_err-used
shape_of-runs-in_err-used c =
    omega (arith, c.loop-done.invariant.0, c.add_base.auto)

pub shape_of-trits-in_err-used : goal.shape_of-trits-in_err-used
shape_of-trits-in_err-used c =
    omega (arith, c.loop-done.invariant.1, c.add_base.auto)

pub returns-in_err-used : goal.returns-in_err-used
returns-in_err-used c =
    let s = c in
    let a = s.args in
    let l = c.loop-done in
    let some : 0 < a.count - l._done = omega (arith, c.loop-done-test.true) in
    rw c.from_residual.ensures (copies_stop a.text.now a.base a.count (a.count - l._done) l.invariant.2 some (rw c.in_err-used.was at c.add_base.ensures))

pub loop-done-preserved : goal.loop-done-preserved
loop-done-preserved c =
    let s = c in
    let a = s.args in
    let l = c.loop-done in
    let g = c.add_base in
    let some : 0 < a.count - l._done = omega (arith, c.loop-done-test.true) in
    let one_less : a.count - (l._done + 1) ≡ a.count - l._done - 1 = omega arith in
    (omega (arith, l.invariant.0, g.auto), omega (arith, l.invariant.1, g.auto), rw one_less (copies_turn a.text.now a.base a.count (a.count - l._done) l.invariant.2 some (rw c.in_ok-used.was at g.ensures)))

pub returns : goal.returns
returns c =
    let s = c in
    let a = s.args in
    let l = c.loop-done in
    copies_end a.text.now a.base a.count (a.count - l._done) l.invariant.2 (omega (arith, c.loop-done-test.false))
