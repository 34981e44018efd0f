use mathlib.Core.Path.{refl}
use Rattle.recording.proofs.Left.{puts_then}
use Rattle.translating.proofs.tables.put_front.Goals as goal

pub returns : goal.returns
returns c = puts_then c.put_constants.ensures refl c.put_inputs.ensures
