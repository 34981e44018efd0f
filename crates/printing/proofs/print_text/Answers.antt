use Rattle.std.proofs.lemmas.Result.{err_from_is_err_and}
use Rattle.printing.proofs.Printing.{not_printed, is_printed}
use Rattle.checking.proofs.Top.{checked_good}
use mathlib.Core.Path.{sym, ◌∙◌}
use Rattle.printing.proofs.print_text.Goals as goal

pub print_good-requires : goal.print_good-requires
print_good-requires c = let a = c.args in let k = checked_good a.rows.now a.strings.now a.bits.now (sym c.check_tables.ensures ∙ c.in_ok-check_tables.was) in (k.0.rows_long, k.0.strings_long, k.0.bits_long, k.1)

pub returns-in_err-check_tables : goal.returns-in_err-check_tables
returns-in_err-check_tables c = let q = err_from_is_err_and c.from_residual.result c.from_residual.ensures.1 in let a = c.args in rw (q.1, q.2) (not_printed a.rows.now a.strings.now a.bits.now a.room.now _ (sym c.check_tables.ensures ∙ c.in_err-check_tables.was))

pub returns : goal.returns
returns c = let a = c.args in is_printed a.rows.now a.strings.now a.bits.now a.room.now _ (sym c.check_tables.ensures ∙ c.in_ok-check_tables.was) c.print_good.ensures
