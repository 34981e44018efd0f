use Rattle.checklib.proofs.tell_pad.Goals as goal

pub returns-in-Ok : goal.returns-in-Ok
returns-in-Ok c = rw (c.pad_at.ensures, c.in-Ok.is)

pub returns-in-Err : goal.returns-in-Err
returns-in-Err c = rw (c.no_pad.ensures, c.in-Err.is)
