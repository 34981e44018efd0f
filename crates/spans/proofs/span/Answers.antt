use Rattle.signs.specs.Bytes.{among}
use mathlib.Core.Path.{refl, sym, ◌∙◌}
use Prim.Native.Nat.{◌-◌}
use native.Mathlib.Omega.{arith}
use Rattle.signs.proofs.Laws.{span_at, span_end_lem}
use mathlib.Core.Bool.{true, false}
use Rattle.spans.proofs.span.Goals as goal

pub loop-i-init : goal.loop-i-init
loop-i-init c = (omega arith, refl)

pub loop-i-preserved : goal.loop-i-preserved
loop-i-preserved c = let p = c in
    let a = p.args in
    let e = sym c.in_classes.ensures ∙ c.if-in_classes.true in (
      omega arith,
      sym (span_at (among a.low a.high) a.text.now p.loop-i.i true c.loop-i-test.true e) ∙ p.loop-i.invariant.1,
    )

pub returns-else-in_classes : goal.returns-else-in_classes
returns-else-in_classes c = let p = c in
    let a = p.args in
    let e = sym c.in_classes.ensures ∙ c.if-in_classes.false in (
      sym (span_at (among a.low a.high) a.text.now p.loop-i.i false c.loop-i-test.true e) ∙ p.loop-i.invariant.1,
      p.loop-i.invariant.0,
    )

pub returns : goal.returns
returns c = let p = c in
    let a = p.args in
    (sym (span_end_lem (among a.low a.high) a.text.now p.loop-i.i c.loop-i-test.false) ∙ p.loop-i.invariant.1, p.loop-i.invariant.0)
