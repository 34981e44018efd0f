use Rattle.checkmeta.specs.Fields.{allowed}
use mathlib.Core.Path.{◌∙◌}
use Rattle.checkmeta.proofs.Laws.{refers_in, refers_late}
use borrow.Author.Tests.{lt-leb}
use Rattle.checkmeta.proofs.refs.refers_to.Goals as goal

pub returns-then-row-lt1 : goal.returns-then-row-lt1
returns-then-row-lt1 c = rw (lt-leb _ _ c.if-row-lt1.true)

pub returns-then-n-row : goal.returns-then-n-row
returns-then-n-row c = let a = c.args in refers_late (allowed a.asks) a.metas.now a.n a.after c.if-n-row.true

pub returns : goal.returns
returns c = let a = c.args in c.allows.ensures ∙ refers_in (allowed a.asks) a.metas.now a.n a.after c.if-row-lt1.false c.if-n-row.false
