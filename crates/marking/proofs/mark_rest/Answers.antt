use mathlib.Core.Path.{refl, sym, ◌∙◌}
use Prim.Native.Nat.{◌-◌}
use Rattle.marking.proofs.Laws.{mark_on, mark_end}
use Rattle.marking.proofs.mark_rest.Goals as goal

pub loop-i-init : goal.loop-i-init
loop-i-init c = refl

pub loop-i-preserved : goal.loop-i-preserved
loop-i-preserved c = let p = c in let a = c.args in (rw (sym c.mark_more-mark.ensures) at (mark_on a.name.now p.loop-i.mark p.loop-i.i c.loop-i-test.true)) ∙ p.loop-i.invariant

pub returns : goal.returns
returns c = let p = c in mark_end c.args.name.now p.loop-i.mark p.loop-i.i c.loop-i-test.false ∙ p.loop-i.invariant
