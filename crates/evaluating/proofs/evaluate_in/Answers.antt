use Rattle.std.proofs.lemmas.Result.{err_from_is_err_and}
use Rattle.evaluating.proofs.Ways.{not_good, are_good, none_short, cleared_same}
use Rattle.checking.proofs.Top.{checked_good}
use Rattle.ground.specs.Regions.{zeros}
use mathlib.Core.Path.{sym, ap, ◌∙◌}
use Rattle.evaluating.proofs.evaluate_in.Goals as goal

pub evaluate_good-requires : goal.evaluate_good-requires
evaluate_good-requires c = let a = c.args in let p = c.requires in let k = checked_good a.rows.now a.strings.now a.bits.now (sym c.check_tables.ensures ∙ c.in_ok-check_tables.was) in (p.0, p.1, p.2, k.1, c.clear_words.ensures ∙ ap zeros p.3)

pub returns-in_err-check_tables : goal.returns-in_err-check_tables
returns-in_err-check_tables c = let q = err_from_is_err_and c.from_residual.result c.from_residual.ensures.1 in let a = c.args in let p = c.requires in rw (q.1, q.2) (not_good a.rows.now a.strings.now a.bits.now a.ins.now a.outs.now a.work.now p.3 (none_short a.rows.now a.strings.now a.bits.now p.0 p.1 p.2) _ _ (c.clear_words.ensures ∙ ap zeros p.3) (sym c.check_tables.ensures ∙ c.in_err-check_tables.was))

pub returns : goal.returns
returns c = let a = c.args in let p = c.requires in let k = checked_good a.rows.now a.strings.now a.bits.now (sym c.check_tables.ensures ∙ c.in_ok-check_tables.was) in are_good a.rows.now a.strings.now a.bits.now a.ins.now a.outs.now a.work.now p.3 (none_short a.rows.now a.strings.now a.bits.now p.0 p.1 p.2) _ k.1 (c.evaluate_good.ensures ∙ cleared_same _ a.ins.now a.outs.now _ a.work.now (c.clear_words.ensures ∙ ap zeros p.3) p.3)
