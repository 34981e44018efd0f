use Rattle.metas.proofs.set_row.Goals as goal

pub returns : goal.returns
returns c = rw (c.no_range.ensures, c.no_spot-2.ensures, c.no_spot.ensures)
