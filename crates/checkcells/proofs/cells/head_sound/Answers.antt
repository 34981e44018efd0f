use Rattle.checkcells.proofs.cells.head_sound.Goals as goal

pub returns : goal.returns
returns c = rw (c.both-4.ensures, c.both-3.ensures, c.both-2.ensures, c.runs_allowed-3.ensures, c.runs_allowed-2.ensures, c.runs_allowed.ensures, c.both.ensures, c.name_sound.ensures, c.word_of-meta.ensures.0, c.operands_of-operands.ensures)
