use Rattle.metas.proofs.string_row.Goals as goal

pub returns : goal.returns
returns c = rw c.no_range.ensures
