use mathlib.Core.Path.{sym, ◌∙◌}
use Rattle.evaluating.proofs.Ways.{unfit_length, fit_trits}
use Rattle.evaluating.proofs.good.fits.Goals as goal

pub returns-then-ins-count : goal.returns-then-ins-count
returns-then-ins-count c = unfit_length _ c.args.ins.now (λ e. c.if-ins-count.true (e ∙ sym c.count_inputs-count.ensures))

pub returns : goal.returns
returns c = fit_trits _ c.args.ins.now _ (c.if-ins-count.false ∙ c.count_inputs-count.ensures) c.all_trits.ensures
