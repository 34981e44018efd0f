use mathlib.Core.Path.{refl, sym, ◌∙◌}
use mathlib.Core.Bool.{true, false}
use Prim.Native.Nat.{◌-◌}
use native.Mathlib.Omega.{arith}
use Rattle.signs.proofs.Laws.{inside_feed, inside_noted, inside_end_lem}
use Rattle.spans.proofs.comment_past.Goals as goal

pub loop-i-init : goal.loop-i-init
loop-i-init c = (omega arith, refl)

pub returns-then-m-eq1 : goal.returns-then-m-eq1
returns-then-m-eq1 c = let p = c in (
  inside_feed p.args.text.now p.loop-i.i c.loop-i-test.true (rw (← c.class_at.ensures) (sym c.inside_move-m.ensures ∙ c.if-m-eq1.true)) ∙ p.loop-i.invariant.1,
  p.loop-i.invariant.0,
)

pub loop-i-preserved : goal.loop-i-preserved
loop-i-preserved c = let p = c in (
  omega (arith, p.loop-i.invariant.0),
  sym (inside_noted p.args.text.now p.loop-i.i c.loop-i-test.true (λ e. c.if-m-eq1.false (c.inside_move-m.ensures ∙ rw c.class_at.ensures e))) ∙ p.loop-i.invariant.1,
)

pub returns : goal.returns
returns c = let s = c.args.text.now in let i = c.loop-i.i in
    (inside_end_lem s i false c.loop-i-test.false ∙ sym (inside_end_lem s i true c.loop-i-test.false) ∙ c.loop-i.invariant.1, c.loop-i.invariant.0)
