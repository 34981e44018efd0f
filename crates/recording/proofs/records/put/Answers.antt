use native.Mathlib.Omega.{arith}
use Rattle.recording.proofs.Left.{puts_one}
use Rattle.recording.proofs.records.put.Goals as goal

pub returns : goal.returns
returns c = (omega arith, puts_one c.put_record.ensures)
