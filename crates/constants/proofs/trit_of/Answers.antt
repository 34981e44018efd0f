use Prim.Native.Nat.{◌-◌}
use mathlib.Core.Path.{◌≡◌}
use native.Mathlib.Omega.{arith}
use Rattle.ground.proofs.Tests.{tests}
use Rattle.constants.proofs.trit_of.Goals as goal

pub returns-then-class_at-eq6 : goal.returns-then-class_at-eq6
returns-then-class_at-eq6 c = search (tests, ← c.class_at.ensures)

pub returns-then-b-lt48 : goal.returns-then-b-lt48
returns-then-b-lt48 c = let b = c.args.b in let e : c.args.b - 48 ≡ 0 = omega arith in rw e (search (tests, ← c.class_at.ensures))

pub returns : goal.returns
returns c = search (tests, ← c.class_at.ensures)
