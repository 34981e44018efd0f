use mathlib.Core.Path.{◌∙◌}
use Rattle.blanks.proofs.no_bytes.Goals as goal

pub returns : goal.returns
returns c = c.blank_bytes.ensures ∙ c.past_bytes.ensures
