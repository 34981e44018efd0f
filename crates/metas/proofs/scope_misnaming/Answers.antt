use mathlib.Core.Path.{sym, ◌∙◌}
use Rattle.metas.proofs.scope_misnaming.Goals as goal

pub returns-then-misnames : goal.returns-then-misnames
returns-then-misnames c = λ ns numbers m l t h k. rw (sym (c.misnames.ensures.1 ns numbers m l t h) ∙ c.if-misnames.true)

pub returns : goal.returns
returns c = λ ns numbers m l t h k. rw (sym (c.misnames.ensures.1 ns numbers m l t h) ∙ c.if-misnames.false) (c.misnaming_of.ensures ns numbers m l t k)
