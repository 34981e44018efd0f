use mathlib.Core.Path.{refl, ◌∙◌}
use native.Mathlib.Omega.{arith}
use Rattle.naming.proofs.Laws.{string_start, string_turn, string_end}
use Rattle.naming.proofs.names.put_string.Goals as goal

pub loop-i-init : goal.loop-i-init
loop-i-init c = let e = c.wide-start.ensures.0 in (refl, omega (arith, c.end_of-end.ensures), rw e (string_start _ _ _ _ _ _ (rw e at c.end_of-end.ensures)))

pub loop-i-preserved : goal.loop-i-preserved
loop-i-preserved c = let p = c in (c.put-n.auto.room ∙ p.loop-i.invariant.0, p.loop-i.invariant.1, string_turn _ _ _ p.loop-i.invariant.2 c.loop-i-test.true p.loop-i.invariant.1 c.put-n.ensures)

pub returns : goal.returns
returns c = string_end _ _ _ c.loop-i.invariant.2 c.loop-i-test.false
