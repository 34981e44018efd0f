use mathlib.Core.Path.{refl}
use Rattle.recording.proofs.Left.{puts_then}
use Rattle.translating.proofs.records.put_constants.Goals as goal

pub returns : goal.returns
returns c = puts_then (puts_then c.put.ensures refl c.put-2.ensures) refl c.put-3.ensures
