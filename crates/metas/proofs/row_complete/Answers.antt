use Rattle.noting.proofs.Passing.{last_fact}
use mathlib.Core.Path.{sym, ◌∙◌}
use Rattle.ground.specs.Lists.{all_of}
use Rattle.metas.proofs.row_complete.Goals as goal

pub returns-then-bad_range : goal.returns-then-bad_range
unfolding all_of
returns-then-bad_range c = rw (sym c.named_rightly.ensures ∙ c.if-named_rightly.true, sym c.bad_range.ensures ∙ c.if-bad_range.true)

pub returns-then-named_rightly : goal.returns-then-named_rightly
unfolding all_of
returns-then-named_rightly c = rw (sym c.named_rightly.ensures ∙ c.if-named_rightly.true, sym c.bad_range.ensures ∙ c.if-bad_range.false) (last_fact _ _ c.enough_members.ensures)

pub returns : goal.returns
unfolding all_of
returns c = rw (sym c.named_rightly.ensures ∙ c.if-named_rightly.false)
