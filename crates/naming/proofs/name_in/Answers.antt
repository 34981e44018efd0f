use Rattle.naming.proofs.Laws.{ident_rising, is_ident_named, no_ident_named}
use Rattle.naming.proofs.name_in.Goals as goal

pub is_ident-requires : goal.is_ident-requires
is_ident-requires c = let g = c.requires in (g.size, g.few)

pub name_row-requires : goal.name_row-requires
name_row-requires c = let a = c.args in ident_rising a.count a.metas.now a.strings.now a.row c.is_ident.ensures c.if-is_ident.true c.requires

pub returns-then-is_ident : goal.returns-then-is_ident
returns-then-is_ident c = let a = c.args in is_ident_named a.count a.metas.now a.strings.now a.row c.is_ident.ensures a.room.now _ c.if-is_ident.true c.name_row.ensures

pub returns : goal.returns
returns c = let a = c.args in rw c.refused.ensures (no_ident_named a.count a.metas.now a.strings.now a.row c.is_ident.ensures a.room.now c.if-is_ident.false)
