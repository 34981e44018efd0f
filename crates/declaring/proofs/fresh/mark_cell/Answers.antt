use mathlib.Core.Path.{refl, sym, ◌∙◌}
use Rattle.ground.proofs.Bools.{never_both}
use Rattle.declaring.proofs.fresh.mark_cell.Goals as goal

pub mark_name-requires : goal.mark_name-requires
mark_name-requires c = c.requires (sym c.has_name.ensures ∙ c.if-has_name.true)

pub returns-then-has_name : goal.returns-then-has_name
returns-then-has_name c = record { named = λ n. c.mark_name.ensures; nameless = λ n. never_both (sym c.has_name.ensures ∙ c.if-has_name.true) n }

pub returns : goal.returns
returns c = record { named = λ n. never_both n (sym c.has_name.ensures ∙ c.if-has_name.false); nameless = λ n. (refl, refl) }
