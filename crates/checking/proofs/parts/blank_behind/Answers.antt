use Rattle.checking.proofs.parts.blank_behind.Goals as goal

pub returns : goal.returns
returns c = rw (c.both.ensures, c.no_bytes.ensures, c.no_words.ensures)
