use Rattle.naming.proofs.Laws.{top_written, under_written}
use Rattle.naming.proofs.names.+put_name.Goals as goal

pub returns-then-up-eq0 : goal.returns-then-up-eq0
returns-then-up-eq0 t c = let a = c.args in top_written a.metas.now a.strings.now a.row _ c.requires c.parent_of-up.ensures c.if-up-eq0.true c.put_own.ensures

pub returns : goal.returns
returns t c = let a = c.args in under_written a.metas.now a.strings.now a.row _ c.requires c.parent_of-up.ensures c.if-up-eq0.false c.put_name-m.ensures c.put_under.ensures
