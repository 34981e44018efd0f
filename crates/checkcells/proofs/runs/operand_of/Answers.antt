use Prim.Native.Nat.{◌+◌, ◌-◌, ◌*◌, ◌<◌}
use native.Mathlib.Omega.{arith}
use mathlib.Core.Path.{◌≡◌, sym, ◌∙◌}
use lib.ListN.{length-drop}
use Rattle.checkmeta.proofs.Laws.{rest_all}
use Rattle.checkcells.specs.Runs.{widths_in}
use Rattle.checkcells.proofs.Laws.{walking_on, operand_off, operand_end}
use Rattle.checkcells.proofs.runs.operand_of.Goals as goal

pub loop-i-init : goal.loop-i-init
loop-i-init c =
    let a = c.args in
    let e : a.count - 0 ≡ a.count = omega arith in
    let k : a.first + 0 ≡ a.first = omega arith in
    record { most = omega arith; at = omega arith; b_room = c.requires.4; w_room = omega arith; is = rw (e, k) }

pub head_good-requires : goal.head_good-requires
head_good-requires c = let a = c.args in let p = c.loop-i in (c.requires.0, rw (rest_all a.runs.now ((a.first + p.i) * 3), length-drop) (omega (arith, c.requires, c.loop-i-test.true)), c.requires.3, p.invariant.b_room)

pub overflow_add-e : goal.overflow_add-e
overflow_add-e c = omega (arith, c.loop-i.invariant.b_room, c.trits_of-e.ensures.1)

pub overflow_add-w : goal.overflow_add-w
overflow_add-w c = omega (arith, c.loop-i.invariant.w_room, c.word_of-w.ensures.1, c.requires)

pub loop-i-preserved : goal.loop-i-preserved
loop-i-preserved c =
    let a = c.args in
    let p = c.loop-i in
    let lt = c.loop-i-test.true in
    let e : a.count - 1 - p.i ≡ a.count - p.i - 1 = omega arith in
    let more : 0 < a.count - p.i = omega arith in
    let g = rw (rest_all a.runs.now ((a.first + p.i) * 3), e) at (sym c.head_good.ensures ∙ c.if-not-head_good.false) in
    let j : a.count - p.i - 1 ≡ a.count - (p.i + 1) = omega arith in
    let k : a.first + p.i + 1 ≡ a.first + (p.i + 1) = omega arith in
    rw (j, k) at (walking_on p.invariant more g _ _ c.trits_of-e.ensures.0 c.word_of-w.ensures.0 c.word_of-w.ensures.1)

pub returns-then-not-head_good : goal.returns-then-not-head_good
returns-then-not-head_good c =
    let a = c.args in
    let p = c.loop-i in
    let lt = c.loop-i-test.true in
    let e : a.count - 1 - p.i ≡ a.count - p.i - 1 = omega arith in
    let more : 0 < a.count - p.i = omega arith in
    let g = rw (rest_all a.runs.now ((a.first + p.i) * 3), e) at (sym c.head_good.ensures ∙ c.if-not-head_good.true) in
    (operand_off (widths_in a.n a.cells.now) a.bits.now a.runs.now (a.first + p.i) p.e p.w (a.count - p.i) more g ∙ p.invariant.is, omega arith, omega arith)

pub returns : goal.returns
returns c = let a = c.args in let p = c.loop-i in (operand_end (widths_in a.n a.cells.now) a.bits.now a.runs.now (a.first + p.i) p.e p.w (a.count - p.i) (omega arith) ∙ p.invariant.is, omega (arith, p.invariant.w_room, p.invariant.most, c.requires), p.invariant.b_room)
