use Rattle.numerals.proofs.offset_at.Goals as goal

pub returns : goal.returns
returns c = c.suffix_at.ensures
