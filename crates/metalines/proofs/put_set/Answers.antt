use Rattle.writing.proofs.Stands.{then}
use Rattle.metalines.proofs.put_set.Goals as goal

pub returns : goal.returns
returns c = then c.put-m.ensures (then c.put_references-m.ensures c.put.ensures)
