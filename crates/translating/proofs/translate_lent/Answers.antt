use Rattle.std.proofs.lemmas.Result.{err_from_is_err_and}
use mathlib.Core.Path.{sym, ap, ◌∙◌}
use Rattle.ground.specs.Regions.{zeros}
use Rattle.checking.proofs.Top.{checked_good}
use Rattle.translating.proofs.Ways.{not_good, are_good, good_clear}
use Rattle.translating.proofs.translate_lent.Goals as goal

pub translate_good-requires : goal.translate_good-requires
translate_good-requires c = (sym c.check_tables.ensures ∙ c.in_ok-check_tables.was, c.clear_words.ensures ∙ ap zeros c.requires.1)

pub returns-in_err-check_tables : goal.returns-in_err-check_tables
returns-in_err-check_tables c = let q = err_from_is_err_and c.from_residual.result c.from_residual.ensures.1 in let a = c.args in rw (q.1, q.2) (not_good a.rows.now a.strings.now a.bits.now a.room.now a.work.now c.requires.1 c.requires.0 _ _ (c.clear_words.ensures ∙ ap zeros c.requires.1) (sym c.check_tables.ensures ∙ c.in_err-check_tables.was))

pub returns : goal.returns
returns c = let a = c.args in are_good a.rows.now a.strings.now a.bits.now a.room.now a.work.now c.requires.1 c.requires.0 _ (checked_good a.rows.now a.strings.now a.bits.now (sym c.check_tables.ensures ∙ c.in_ok-check_tables.was)).1 (c.translate_good.ensures ∙ good_clear _ a.room.now a.work.now _ c.requires.1 (c.clear_words.ensures ∙ ap zeros c.requires.1))
