use Rattle.checklib.proofs.grackle_pad.Goals as goal

pub returns : goal.returns
returns c = rw (c.tell_pad.ensures, ← c.lookup_io.ensures)
