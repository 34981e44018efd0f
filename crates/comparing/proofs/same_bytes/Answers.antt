use native.Mathlib.Omega.{arith}
use mathlib.Core.Path.{refl, ◌∙◌}
use Rattle.ground.proofs.Same.{same_on, same_differ, same_end, same_lengths}
use Rattle.comparing.proofs.same_bytes.Goals as goal

pub loop-i-init : goal.loop-i-init
loop-i-init c = (c.if-a-b.true, refl)

pub returns-then-a-i : goal.returns-then-a-i
returns-then-a-i c = let p = c in let a = p.args in same_differ a.a.now a.b.now p.loop-i.i (omega arith) (omega (arith, p.loop-i.invariant.0)) c.if-a-i.true ∙ p.loop-i.invariant.1

pub loop-i-preserved : goal.loop-i-preserved
loop-i-preserved c = let p = c in let a = p.args in (p.loop-i.invariant.0, same_on a.a.now a.b.now p.loop-i.i (omega arith) (omega (arith, p.loop-i.invariant.0)) c.if-a-i.false ∙ p.loop-i.invariant.1)

pub returns-then-a-b : goal.returns-then-a-b
returns-then-a-b c = let p = c in let a = p.args in same_end a.a.now a.b.now p.loop-i.i (omega arith) (omega (arith, p.loop-i.invariant.0)) ∙ p.loop-i.invariant.1

pub returns : goal.returns
returns c = let a = c.args in same_lengths a.a.now a.b.now c.if-a-b.false
