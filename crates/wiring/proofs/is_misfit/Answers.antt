use Rattle.wiring.proofs.is_misfit.Goals as goal

pub returns-then-fits : goal.returns-then-fits
returns-then-fits c = rw (← c.fits.ensures, c.if-fits.true)

pub returns : goal.returns
returns c = rw (← c.fits.ensures, c.if-fits.false)
