use Rattle.writing.specs.Words.{reference}
use Rattle.writing.proofs.Stands.{then}
use Rattle.references.proofs.put_reference.Goals as goal

pub returns : goal.returns
unfolding reference
returns c = then c.put-m.ensures (rw c.row_of.ensures at c.put_number.ensures)
