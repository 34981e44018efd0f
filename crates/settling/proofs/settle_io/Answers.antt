use Rattle.settling.proofs.settle_io.Goals as goal

pub returns : goal.returns
returns c = (rw c.word.ensures, c.lay_string-end.ensures.1, c.lay_string-end.ensures.0)
