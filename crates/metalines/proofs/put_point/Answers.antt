use Rattle.writing.proofs.Stands.{then}
use Rattle.lines.specs.Lines.{point}
use Rattle.metalines.proofs.put_point.Goals as goal

pub returns : goal.returns
unfolding point
returns c = then c.put-m.ensures (then c.put_hash-m.ensures (then c.put-m-2.ensures (then c.put_hash-m-2.ensures c.put.ensures)))
