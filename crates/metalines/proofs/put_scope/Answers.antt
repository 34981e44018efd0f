use Rattle.writing.proofs.Stands.{then}
use Rattle.ground.specs.Text.{bytes}
use Rattle.writing.specs.Words.{text}
use Rattle.metalines.proofs.put_scope.Goals as goal

pub returns : goal.returns
unfolding text bytes
returns c = then c.put_all-m.ensures (then c.put_quoted-m.ensures c.put_scope_line.ensures)
