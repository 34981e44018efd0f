use mathlib.Core.Path.{refl, sym, ◌∙◌}
use Prim.Native.Nat.{◌-◌}
use mathlib.Core.Bool.{false}
use native.Mathlib.Omega.{arith}
use borrow.Author.Tests.{eq-eqb, ne_eqb}
use Rattle.signs.proofs.Laws.{inside_at, inside_end_lem}
use Rattle.spans.proofs.inside_end.Goals as goal

pub loop-i-init : goal.loop-i-init
loop-i-init c = refl

pub returns-then-m-eq0 : goal.returns-then-m-eq0
returns-then-m-eq0 c = let p = c in
    let at = inside_at p.args.text.now p.loop-i.i false c.inside_move-m.result c.loop-i-test.true (rw (← c.class_at.ensures) (sym c.inside_move-m.ensures)) in
    cc (rw (eq-eqb _ _ c.if-m-eq0.true) at at)

pub loop-i-smaller : goal.loop-i-smaller
loop-i-smaller c = omega (arith, c.behind_move-i.ensures.1, c.loop-i-test.true)

pub loop-i-preserved : goal.loop-i-preserved
loop-i-preserved c = let p = c in
    let at = inside_at p.args.text.now p.loop-i.i false c.inside_move-m.result c.loop-i-test.true (rw (← c.class_at.ensures) (sym c.inside_move-m.ensures)) in
    c.behind_move-i.ensures.0 ∙ sym (rw (ne_eqb _ _ c.if-m-eq0.false) at at) ∙ p.loop-i.invariant

pub returns : goal.returns
returns c = cc (inside_end_lem c.args.text.now c.loop-i.i false c.loop-i-test.false)
