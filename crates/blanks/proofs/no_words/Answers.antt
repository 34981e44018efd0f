use mathlib.Core.Path.{◌∙◌}
use Rattle.blanks.proofs.no_words.Goals as goal

pub returns : goal.returns
returns c = c.blank_words.ensures ∙ c.past_words.ensures
