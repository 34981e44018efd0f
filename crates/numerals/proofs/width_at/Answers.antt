use Rattle.numerals.proofs.width_at.Goals as goal

pub returns : goal.returns
returns c = c.suffix_at.ensures
