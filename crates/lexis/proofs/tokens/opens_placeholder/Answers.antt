use Prim.Native.Nat.{◌+◌}
use mathlib.Core.Path.{refl}
use Rattle.ground.proofs.Bools.{never_both}
use Rattle.signs.proofs.Laws.{in_text}
use native.Mathlib.Omega.{arith}
use borrow.Author.Tests.{eq-eqb, ne_eqb}
-- A byte that is not 0 stands in the text, so the place behind it can be asked.
use Rattle.lexis.proofs.tokens.opens_placeholder.Goals as goal

pub overflow_add-k : goal.overflow_add-k
overflow_add-k c = let a = c.args in omega (arith, in_text a.text.now a.k (omega (arith, c.byte_at-b.ensures)))

pub returns-then-n-eq95 : goal.returns-then-n-eq95
returns-then-n-eq95 c = let a = c.args in (
  rw (← c.byte_at-b.ensures, eq-eqb _ _ c.if-b-eq58.true, ← c.byte_at-n.ensures, eq-eqb _ _ c.if-n-eq95.true),
  λ e. in_text a.text.now (a.k + 1) (omega (arith, c.byte_at-n.ensures)),
)

pub returns-then-b-eq58 : goal.returns-then-b-eq58
returns-then-b-eq58 c = (
  rw (← c.byte_at-b.ensures, eq-eqb _ _ c.if-b-eq58.true, ← c.byte_at-n.ensures, ne_eqb _ _ c.if-n-eq95.false),
  λ e. never_both e refl,
)

pub returns : goal.returns
returns c = (rw (← c.byte_at-b.ensures, ne_eqb _ _ c.if-b-eq58.false), λ e. never_both e refl)
