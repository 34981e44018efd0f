use Rattle.checkcells.proofs.cells.is_placed.Goals as goal

pub returns : goal.returns
returns c = rw (c.both.ensures, c.lies_at-2.ensures, c.word_of-6.ensures.0, c.lies_at.ensures, c.word_of-5.ensures.0, c.word_of-4.ensures.0, c.word_of-3.ensures.0, c.word_of-2.ensures.0, c.word_of.ensures.0)
