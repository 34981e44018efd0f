use Rattle.naming.proofs.Laws.{ident_is, no_row}
use Rattle.naming.proofs.names.is_ident.Goals as goal

pub returns-then-row-wide : goal.returns-then-row-wide
returns-then-row-wide c = let a = c.args in ident_is a.metas.now a.count a.row _ c.wide.ensures.0 _ c.if-row-wide.true c.field_of.ensures

pub returns : goal.returns
returns c = let a = c.args in no_row a.metas.now a.count a.row _ c.wide.ensures.0 c.if-row-wide.false
