use mathlib.Core.Path.{◌≡◌}
use native.Mathlib.Omega.{arith}
use Rattle.ground.proofs.Tests.{tests}
use Rattle.scanning.specs.Modes.{meant}
use Rattle.scanning.proofs.Sequences.{meant_mode}
use Rattle.scanning.proofs.scan.behind.Goals as goal

pub returns-then-b-low : goal.returns-then-b-low
unfolding meant
returns-then-b-low c = search tests

pub returns-then-high-b : goal.returns-then-high-b
unfolding meant
returns-then-high-b c = search tests

pub returns : goal.returns
unfolding meant
returns c = let f : c.args.next ≡ 9 → ⊥ = λ e. omega arith in rw (meant_mode _ f) (search tests)
