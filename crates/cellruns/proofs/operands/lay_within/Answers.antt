use mathlib.Core.Path.{◌≡◌, refl, sym, ap, ◌∙◌}
use Prim.Native.Nat.{ℕ, suc, ◌+◌, ◌-◌}
use native.Mathlib.Omega.{arith}
use lib.ListN.{length}
use Rattle.brackets.specs.Parts.{parts_from}
use Rattle.laying.proofs.Inside.{parts_in}
use Rattle.laying.proofs.Spotting.{spot_done, spot_fits, spot_more, spot_full}
use Rattle.laying.proofs.Walking.{parts_none, parts_refused, parts_other, parts_took, walks_as, walks_none, walks_done, walks_fits, walks_more, walks_full}
use Rattle.cellruns.proofs.operands.lay_within.Goals as goal

pub loop-done-init : goal.loop-done-init
loop-done-init c =
    let a = c.args in
    let k = a.reader.next.at in
    let n : suc (length a.text.now) ≡ length a.text.now + 1 - 0 = omega arith in
    (refl, refl, walks_as (ap (λ (f : ℕ). parts_from f a.text.now k) n) (walks_none a.text.now (parts_from (suc (length a.text.now)) a.text.now k) a.runs.now a.trits.now a.so (parts_in a.text.now (suc (length a.text.now)) k)))

pub shape_of-runs-then-spot : goal.shape_of-runs-then-spot
shape_of-runs-then-spot c = omega (arith, c.loop-done.invariant.0)

pub shape_of-trits-then-spot : goal.shape_of-trits-then-spot
shape_of-trits-then-spot c = omega (arith, c.loop-done.invariant.1)

pub returns-then-spot : goal.returns-then-spot
returns-then-spot c =
    let a = c.args in
    let l = c.loop-done in
    let s = c.spot_with-spot in
    spot_done a.text.now _ a.runs.now a.trits.now a.so l.next.next.at (length a.text.now + 1 - l._done) s.result s.ensures l.invariant.2 c.if-spot.true

pub add_piece-requires : goal.add_piece-requires
add_piece-requires c =
    let a = c.args in
    let l = c.loop-done in
    let s = c.spot_with-spot in
    spot_fits a.text.now _ a.runs.now a.trits.now a.so l.next.next.at (length a.text.now + 1 - l._done) s.result s.ensures l.invariant.2 c.if-spot-2.true (omega (arith, c.loop-done-test.true)) c.requires.1

pub shape_of-runs-in_err-more : goal.shape_of-runs-in_err-more
shape_of-runs-in_err-more c = omega (arith, c.loop-done.invariant.0, c.add_piece.auto)

pub shape_of-trits-in_err-more : goal.shape_of-trits-in_err-more
shape_of-trits-in_err-more c = omega (arith, c.loop-done.invariant.1)

pub returns-in_err-more : goal.returns-in_err-more
returns-in_err-more c =
    let a = c.args in
    let l = c.loop-done in
    let s = c.spot_with-spot in
    rw c.from_residual.ensures (spot_full a.text.now _ a.runs.now a.trits.now a.so l.next.next.at (length a.text.now + 1 - l._done) s.result s.ensures l.invariant.2 c.if-spot-2.true (omega (arith, c.loop-done-test.true)) (rw c.in_err-more.was at c.add_piece.ensures))

pub loop-done-preserved-then-spot-2 : goal.loop-done-preserved-then-spot-2
loop-done-preserved-then-spot-2 c =
    let a = c.args in
    let l = c.loop-done in
    let s = c.spot_with-spot in
    let g = c.add_piece in
    let one_less : length a.text.now + 1 - (l._done + 1) ≡ length a.text.now + 1 - l._done - 1 = omega arith in
    (omega (arith, l.invariant.0, g.auto), l.invariant.1, rw one_less (spot_more a.text.now _ a.runs.now a.trits.now a.so l.next.next.at (length a.text.now + 1 - l._done) s.result s.ensures l.invariant.2 c.if-spot-2.true (omega (arith, c.loop-done-test.true)) (rw c.in_ok-more.was at g.ensures) c.or_none-bare.ensures))

pub shape_of-runs-in_default : goal.shape_of-runs-in_default
shape_of-runs-in_default c = omega (arith, c.loop-done.invariant.0)

pub shape_of-trits-in_default : goal.shape_of-trits-in_default
shape_of-trits-in_default c = omega (arith, c.loop-done.invariant.1)

pub returns-in_default : goal.returns-in_default
returns-in_default c =
    let a = c.args in
    let l = c.loop-done in
    let e = sym c.inside_with-step.ensures ∙ c.in_default.is in
    walks_done a.text.now _ a.runs.now a.trits.now a.so (walks_as (parts_refused a.text.now l.next.next.at (length a.text.now + 1 - l._done) _ e) l.invariant.2)

pub add_token-requires : goal.add_token-requires
add_token-requires c =
    let a = c.args in
    let l = c.loop-done in
    let e = sym c.inside_with-step.ensures ∙ c.in-Ok.is in
    let is = sym c.is_part.ensures ∙ c.if-is_part.true in
    let f = walks_fits a.text.now _ a.runs.now a.trits.now a.so _ _ (walks_as (parts_took a.text.now l.next.next.at _ _ e (length a.text.now + 1 - l._done) (omega (arith, c.loop-done-test.true)) is) l.invariant.2) c.requires.1 in
    (f.0, f.1)

pub shape_of-runs-in_err-more-2 : goal.shape_of-runs-in_err-more-2
shape_of-runs-in_err-more-2 c = omega (arith, c.loop-done.invariant.0, c.add_token.auto)

pub shape_of-trits-in_err-more-2 : goal.shape_of-trits-in_err-more-2
shape_of-trits-in_err-more-2 c = omega (arith, c.loop-done.invariant.1, c.add_token.auto)

pub returns-in_err-more-2 : goal.returns-in_err-more-2
returns-in_err-more-2 c =
    let a = c.args in
    let l = c.loop-done in
    let e = sym c.inside_with-step.ensures ∙ c.in-Ok.is in
    let is = sym c.is_part.ensures ∙ c.if-is_part.true in
    rw c.from_residual-in_err-more-2.ensures (walks_full a.text.now _ a.runs.now a.trits.now a.so _ _ (walks_as (parts_took a.text.now l.next.next.at _ _ e (length a.text.now + 1 - l._done) (omega (arith, c.loop-done-test.true)) is) l.invariant.2) (rw c.in_err-more-2.was at c.add_token.ensures))

pub loop-done-preserved : goal.loop-done-preserved
loop-done-preserved c =
    let a = c.args in
    let l = c.loop-done in
    let e = sym c.inside_with-step.ensures ∙ c.in-Ok.is in
    let is = sym c.is_part.ensures ∙ c.if-is_part.true in
    let g = c.add_token in
    let one_less : length a.text.now + 1 - (l._done + 1) ≡ length a.text.now + 1 - l._done - 1 = omega arith in
    (omega (arith, l.invariant.0, g.auto), omega (arith, l.invariant.1, g.auto), rw one_less (walks_more a.text.now _ a.runs.now a.trits.now a.so _ _ (walks_as (parts_took a.text.now l.next.next.at _ _ e (length a.text.now + 1 - l._done) (omega (arith, c.loop-done-test.true)) is) l.invariant.2) (rw c.in_ok-more-2.was at g.ensures) c.or_bare-bare.ensures))

pub shape_of-runs-else-is_part : goal.shape_of-runs-else-is_part
shape_of-runs-else-is_part c = omega (arith, c.loop-done.invariant.0)

pub shape_of-trits-else-is_part : goal.shape_of-trits-else-is_part
shape_of-trits-else-is_part c = omega (arith, c.loop-done.invariant.1)

pub returns-else-is_part : goal.returns-else-is_part
returns-else-is_part c =
    let a = c.args in
    let l = c.loop-done in
    let e = sym c.inside_with-step.ensures ∙ c.in-Ok.is in
    let not = sym c.is_part.ensures ∙ c.if-is_part.false in
    walks_done a.text.now _ a.runs.now a.trits.now a.so (walks_as (parts_other a.text.now l.next.next.at _ _ e (length a.text.now + 1 - l._done) not) l.invariant.2)

pub shape_of-runs : goal.shape_of-runs
shape_of-runs c = omega (arith, c.loop-done.invariant.0)

pub shape_of-trits : goal.shape_of-trits
shape_of-trits c = omega (arith, c.loop-done.invariant.1)

pub returns : goal.returns
returns c =
    let a = c.args in
    let l = c.loop-done in
    walks_done a.text.now _ a.runs.now a.trits.now a.so (walks_as (parts_none a.text.now l.next.next.at (length a.text.now + 1 - l._done) (omega (arith, c.loop-done-test.false))) l.invariant.2)
