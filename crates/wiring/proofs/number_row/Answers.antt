use Rattle.wiring.proofs.number_row.Goals as goal

pub returns : goal.returns
returns c = let e = c.row_of.ensures.1 in rw c.cell_numbers_of.ensures at e
