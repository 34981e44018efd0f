use Rattle.checklib.proofs.grackle_check.Goals as goal

pub returns : goal.returns
returns c = rw (c.tell_check.ensures, ← c.check_tables.ensures)
