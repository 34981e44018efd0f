use mathlib.Core.Path.{◌∙◌}
use Rattle.loadlist.proofs.Laws.{gate_fits}
use Rattle.listcheck.proofs.fields_fit.Goals as goal

pub returns-then-r-lt8 : goal.returns-then-r-lt8
returns-then-r-lt8 c =
    let s = c.args in
    c.both_earlier.ensures ∙ gate_fits s.r s.k s.inputs s.outputs c.if-r-gt4.true c.if-r-lt8.true

pub returns : goal.returns
returns c = c.known_fits.ensures
