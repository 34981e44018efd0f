use mathlib.Core.Path.{◌∙◌}
use Rattle.asking.proofs.refs.row_of.Goals as goal

pub returns : goal.returns
returns c = let a = c.args in (c.word_at.ensures, λ ns m h. c.word_at.ensures ∙ m.is a.index h)
