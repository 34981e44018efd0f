use native.Mathlib.Omega.{arith}
use Rattle.scanning.proofs.Plain.{plain_tail}
use Rattle.scanning.proofs.scan.odd.Goals as goal

pub returns-then-b-gt127 : goal.returns-then-b-gt127
returns-then-b-gt127 c = (omega arith, λ e. absurd (omega arith))

pub returns-then-b-eq13 : goal.returns-then-b-eq13
returns-then-b-eq13 c = (omega arith, λ e. absurd (omega arith))

pub returns : goal.returns
returns c = (omega arith, λ e. plain_tail c.args.b (omega arith) c.if-b-eq13.false)
