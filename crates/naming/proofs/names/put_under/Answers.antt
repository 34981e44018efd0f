use Rattle.writing.proofs.Stands.{then}
use Rattle.naming.proofs.names.put_under.Goals as goal

pub returns : goal.returns
returns c = then c.put-m.ensures c.put_own.ensures
