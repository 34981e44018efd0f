use Rattle.checkmeta.proofs.rows.values_sound.Goals as goal

pub returns : goal.returns
returns c = rw (c.both-3.ensures, c.both-2.ensures, c.range_sound.ensures, c.number_sound.ensures, c.both.ensures, c.source_sound.ensures, c.inside_sound.ensures)
