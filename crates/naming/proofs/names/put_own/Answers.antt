use Rattle.writing.proofs.Stands.{same_text}
use Rattle.naming.proofs.Laws.{own_indexed, own_named}
use Rattle.naming.proofs.names.put_own.Goals as goal

pub returns-then-field_of-eq4 : goal.returns-then-field_of-eq4
returns-then-field_of-eq4 c = let a = c.args in same_text c.put_signed.ensures (own_indexed a.metas.now a.strings.now a.row _ c.field_of.ensures _ c.if-field_of-eq4.true c.field_of-then-field_of-eq4.ensures)

pub returns : goal.returns
returns c = let a = c.args in same_text c.put_string.ensures (own_named a.metas.now a.strings.now a.row _ c.field_of.ensures _ _ c.if-field_of-eq4.false c.field_of-2.ensures c.field_of-3.ensures)
