use Rattle.checking.proofs.parts.names_distinct.Goals as goal

pub returns : goal.returns
returns c = rw (c.both.ensures, c.cells_distinct-2.ensures, c.cells_distinct.ensures)
