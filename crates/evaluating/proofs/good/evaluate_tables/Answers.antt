use Rattle.evaluating.proofs.Entry.{ring_answer, unfit_answer, given_answer}
use Rattle.evaluating.proofs.Ways.{fit_length}
use Rattle.evaluating.proofs.Settling.{rows_begin}
use Rattle.ordering.proofs.Ordered.{ordered, ordered_below, ordered_few}
use mathlib.Core.Path.{sym, ◌∙◌}
use Rattle.evaluating.proofs.good.evaluate_tables.Goals as goal

pub order_rows-placed-requires : goal.order_rows-placed-requires
order_rows-placed-requires c = (c.requires.1, rows_begin, c.requires.2)

pub returns-then-placed : goal.returns-then-placed
returns-then-placed c = let p = c.order_rows-placed.ensures in rw c.refused.ensures (ring_answer c.requires.2 p.1 (sym p.0.ring ∙ c.if-placed.true))

pub fits-requires : goal.fits-requires
fits-requires c = let t = c.requires.0 in (t.cells_long, t.few, t.inputs)

pub evaluate_placed-requires : goal.evaluate_placed-requires
evaluate_placed-requires c = let p = c.order_rows-placed.ensures.0 in (c.requires.0, ordered_few p, ordered_below p, fit_length _ c.args.ins.now (sym c.fits.ensures ∙ c.if-fits.true))

pub returns-then-fits : goal.returns-then-fits
returns-then-fits c = let p = c.order_rows-placed.ensures in given_answer c.requires.2 p.1 (ordered p.0) (sym p.0.ring ∙ c.if-placed.false) (sym c.fits.ensures ∙ c.if-fits.true) c.evaluate_placed.ensures

pub returns : goal.returns
returns c = let p = c.order_rows-placed.ensures in rw c.refused-2.ensures (unfit_answer c.requires.2 p.1 (sym p.0.ring ∙ c.if-placed.false) (sym c.fits.ensures ∙ c.if-fits.false))
