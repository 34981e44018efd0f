use Rattle.scanning.proofs.Plain.{skip_both}
use Rattle.scanning.proofs.scan.past_plain.Goals as goal

pub returns : goal.returns
returns c = skip_both c.past_blocks.ensures c.past_bytes.ensures
