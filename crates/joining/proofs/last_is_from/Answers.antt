use mathlib.Core.Path.{sym, ◌∙◌}
use native.Mathlib.Omega.{arith}
use Rattle.laying.proofs.Lasting.{last_some}
use Rattle.joining.proofs.last_is_from.Goals as goal

pub overflow_sub-result : goal.overflow_sub-result
overflow_sub-result c = let p = c.args in omega (arith, last_some p.runs.now p.first p.n p.head (sym c.last_is.ensures ∙ c.if-last_is.true))

pub returns-then-last_is : goal.returns-then-last_is
returns-then-last_is c = rw (← c.last_is.ensures, c.if-last_is.true)

pub returns : goal.returns
returns c = rw (← c.last_is.ensures, c.if-last_is.false)
