use Rattle.recording.proofs.Left.{puts_one}
use Rattle.translating.proofs.records.put.Goals as goal

pub returns : goal.returns
returns c = puts_one c.put_record.ensures
