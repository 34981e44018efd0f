use Rattle.writing.proofs.Stands.{then}
use Rattle.ground.specs.Text.{bytes}
use Rattle.writing.specs.Words.{text}
use Rattle.iolines.proofs.put_io.Goals as goal

pub returns : goal.returns
unfolding text bytes
returns c = then c.put-m.ensures (then c.put_quoted-m.ensures (then c.put-m-2.ensures (then c.put_number-m.ensures c.put_all.ensures)))
