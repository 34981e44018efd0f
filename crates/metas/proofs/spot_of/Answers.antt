use Rattle.noting.proofs.Passing.{positive, string_inside}
use borrow.Author.Tests.{eq-eqb, ne_eqb}
use native.Mathlib.Omega.{arith}
use mathlib.Core.Path.{◌∙◌}
use Rattle.metas.proofs.spot_of.Goals as goal

pub returns-then-size-eq0 : goal.returns-then-size-eq0
returns-then-size-eq0 c = let a = c.args in rw (eq-eqb a.s.size 0 c.if-size-eq0.true, c.if-size-eq0.true)

pub overflow_cast-result : goal.overflow_cast-result
overflow_cast-result c = let s = c in let a = s.args in let k = string_inside a.text.now a.s.from (positive _ (λ z. c.if-size-eq0.false (s.requires.1.size ∙ z))) in omega (arith, k, s.requires.0)

pub returns : goal.returns
returns c = let a = c.args in rw (ne_eqb a.s.size 0 c.if-size-eq0.false)
