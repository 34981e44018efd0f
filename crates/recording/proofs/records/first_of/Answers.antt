use native.Mathlib.Omega.{arith}
use Rattle.ground.proofs.Rest.{past_zero}
use mathlib.Core.Path.{sym}
use Rattle.recording.proofs.records.first_of.Goals as goal

pub returns : goal.returns
returns c = sym (past_zero c.args.a.now 0 (omega arith))
