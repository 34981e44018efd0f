use Rattle.writing.specs.Words.{quoted}
use Rattle.writing.proofs.Stands.{then}
use Rattle.quotes.proofs.put_quoted.Goals as goal

pub returns : goal.returns
unfolding quoted
returns c = then c.put-m.ensures (then c.put_bytes-m.ensures c.put.ensures)
