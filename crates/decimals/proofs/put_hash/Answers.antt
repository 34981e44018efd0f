use Rattle.writing.specs.Words.{hash}
use Rattle.writing.proofs.Stands.{then}
use Rattle.decimals.proofs.put_hash.Goals as goal

pub returns : goal.returns
unfolding hash
returns c = then c.put-m.ensures c.put_signed.ensures
