use Rattle.checkmeta.proofs.rows.sizes_sound.Goals as goal

pub returns : goal.returns
returns c = rw (c.both-4.ensures, c.both-3.ensures, c.both-2.ensures, c.bits_sound.ensures, c.members_sound.ensures, c.text_sound.ensures, c.both.ensures, c.name_sound.ensures, c.kind_sound.ensures)
