use Rattle.checking.proofs.ios.io_good.Goals as goal

pub returns : goal.returns
returns c = rw (c.both-2.ensures, c.both.ensures, c.wide.ensures, c.name_wide.ensures, c.lies_at.ensures, c.word_of.ensures.0, c.word_of-width.ensures.0, c.word_of-size.ensures.0)
