use mathlib.Core.Path.{sym, ◌∙◌}
use Rattle.pads.proofs.found_at.Goals as goal

pub returns-then-pad_named : goal.returns-then-pad_named
returns-then-pad_named c = rw (sym c.pad_named.ensures ∙ c.if-pad_named.true)

pub returns : goal.returns
returns c = rw (sym c.pad_named.ensures ∙ c.if-pad_named.false)
