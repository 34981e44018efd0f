use mathlib.Core.List.{[], ◌∷◌}
use native.Mathlib.Omega.{arith}
use Rattle.cells.proofs.Filling.{start, full}
use Rattle.cellvalues.proofs.lent.put_bit.Goals as goal

pub returns-then-out-eq0 : goal.returns-then-out-eq0
returns-then-out-eq0 c = let a = c.args in full (start a.out.now 0 (a.x ∷ [])) (omega (arith, c.if-out-eq0.true))
