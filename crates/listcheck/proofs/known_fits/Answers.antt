use mathlib.Core.Path.{sym, ◌∙◌}
use Rattle.ground.proofs.Tests.{tests}
use Rattle.loadlist.proofs.Laws.{fits_second, fits_first}
use Rattle.listcheck.proofs.known_fits.Goals as goal

pub returns-then-first_fits : goal.returns-then-first_fits
returns-then-first_fits c =
    let s = c.args in
    c.second_fits.ensures ∙ fits_second s.r s.k s.inputs s.outputs c.if-r-le8.true (sym c.first_fits.ensures ∙ c.if-first_fits.true)

pub returns-else-first_fits : goal.returns-else-first_fits
returns-else-first_fits c =
    let s = c.args in
    fits_first s.r s.k s.inputs s.outputs c.if-r-le8.true (sym c.first_fits.ensures ∙ c.if-first_fits.false)

pub returns-else-r-le8 : goal.returns-else-r-le8
returns-else-r-le8 c = search tests
