use native.Mathlib.Omega.{arith}
use Rattle.wiring.proofs.operand_word.Goals as goal

pub overflow_add-result : goal.overflow_add-result
overflow_add-result c = omega (arith, c.requires c.if-o.true)

pub overflow_cast-result : goal.overflow_cast-result
overflow_cast-result c = omega (arith, c.requires c.if-o.true)

pub returns-then-o : goal.returns-then-o
returns-then-o c = rw c.if-o.true
