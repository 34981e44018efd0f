use mathlib.Core.Path.{sym, ◌∙◌}
use Rattle.signs.specs.Pieces.{quoted_at, string_at}
use Rattle.signs.proofs.Strings.{closed_size, malformed_size}
use Rattle.decoding.proofs.size_of.Goals as goal

pub returns-in-Some : goal.returns-in-Some
unfolding quoted_at
returns-in-Some c = let a = c.args in closed_size (string_at a.text.now a.from) _ _ (sym c.in-Some.is ∙ c.quoted_at.ensures)

pub returns-in-None : goal.returns-in-None
unfolding quoted_at
returns-in-None c = let a = c.args in malformed_size (string_at a.text.now a.from) (sym c.in-None.is ∙ c.quoted_at.ensures)
