use Rattle.metas.proofs.MetaLaws.{complete_said, width_said, meta_incomplete, meta_misfit, meta_cramps, meta_passes}
use mathlib.Core.Path.{sym, ◌∙◌}
use Rattle.metas.proofs.meta_limits.Goals as goal

pub returns-then-meta_cramped : goal.returns-then-meta_cramped
returns-then-meta_cramped c = let a = c.args in λ text N m t s. c.refuse.ensures ∙ meta_cramps N m a.place (sym (complete_said text a.row m s) ∙ sym c.row_complete.ensures ∙ c.if-row_complete.true) (sym (width_said text a.row m s) ∙ sym c.trits_fit.ensures ∙ c.if-trits_fit.true) (sym (c.meta_cramped.ensures text N m t s) ∙ c.if-meta_cramped.true)

pub returns-then-trits_fit : goal.returns-then-trits_fit
returns-then-trits_fit c = let a = c.args in λ text N m t s. meta_passes N m a.place (sym (complete_said text a.row m s) ∙ sym c.row_complete.ensures ∙ c.if-row_complete.true) (sym (width_said text a.row m s) ∙ sym c.trits_fit.ensures ∙ c.if-trits_fit.true) (sym (c.meta_cramped.ensures text N m t s) ∙ c.if-meta_cramped.false)

pub returns-then-row_complete : goal.returns-then-row_complete
returns-then-row_complete c = let a = c.args in λ text N m t s. c.refuse-then-row_complete.ensures ∙ meta_misfit N m a.place (sym (complete_said text a.row m s) ∙ sym c.row_complete.ensures ∙ c.if-row_complete.true) (sym (width_said text a.row m s) ∙ sym c.trits_fit.ensures ∙ c.if-trits_fit.false)

pub returns : goal.returns
returns c = let a = c.args in λ text N m t s. c.refuse-2.ensures ∙ meta_incomplete N m a.place (sym (complete_said text a.row m s) ∙ sym c.row_complete.ensures ∙ c.if-row_complete.false)
