use Rattle.metas.proofs.constant_row.Goals as goal

pub returns : goal.returns
returns c = rw (c.no_range.ensures, c.no_spot.ensures)
