use Rattle.ground.specs.Text.{bytes}
use Rattle.writing.specs.Words.{text}
use Rattle.writing.proofs.Stands.{then}
use Rattle.celllines.proofs.put_declared.Goals as goal

pub returns : goal.returns
unfolding text bytes
returns c = then c.put-m.ensures (then c.put_number-m.ensures (then c.put-m-2.ensures (then c.put_number-m-2.ensures (then c.put_all-m.ensures c.put_keyword.ensures))))
