use Rattle.std.proofs.lemmas.Result.{err_from_is_err_and}
use mathlib.Core.Path.{sym, ◌∙◌}
use native.Mathlib.Omega.{arith}
use Rattle.checking.proofs.Top.{checked_good}
use Rattle.naming.proofs.Naming.{cut_rising, not_named, is_named}
use Rattle.naming.proofs.full_name.Goals as goal

pub bounds-rows-0 : goal.bounds-rows-0
bounds-rows-0 c = let a = c.args in let k = (checked_good a.rows.now a.strings.now a.bits.now (sym c.check_tables.ensures ∙ c.in_ok-check_tables.was)).0 in omega (arith, k.rows_long)

pub name_in-requires : goal.name_in-requires
name_in-requires c = let a = c.args in cut_rising a.rows.now a.strings.now a.bits.now _ c.metas_of-metas.ensures (sym c.check_tables.ensures ∙ c.in_ok-check_tables.was)

pub returns-in_err-check_tables : goal.returns-in_err-check_tables
returns-in_err-check_tables c = let q = err_from_is_err_and c.from_residual.result c.from_residual.ensures.1 in let a = c.args in rw (q.1, q.2) (not_named a.rows.now a.strings.now a.bits.now a.row a.room.now _ (sym c.check_tables.ensures ∙ c.in_err-check_tables.was))

pub returns : goal.returns
returns c = let a = c.args in is_named a.rows.now a.strings.now a.bits.now _ c.metas_of-metas.ensures a.row a.room.now _ _ c.strings_of-text.ensures (sym c.check_tables.ensures ∙ c.in_ok-check_tables.was) c.name_in.ensures
