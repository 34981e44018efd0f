use Rattle.declaring.proofs.notes.sort_of.Goals as goal

pub returns-in-Io : goal.returns-in-Io
returns-in-Io c = rw c.in-Io.is

pub returns-in-Cell : goal.returns-in-Cell
returns-in-Cell c = rw c.in-Cell.is
