use Rattle.scanning.proofs.Sequences.{sound_short}
use mathlib.Core.Path.{sym, ◌∙◌}
use Rattle.textlib.proofs.count.Goals as goal

pub count_from-requires : goal.count_from-requires
count_from-requires c = sound_short _ (sym c.whole.ensures ∙ c.in_ok-whole.was)
