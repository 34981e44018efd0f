use borrow.Author.Tests.{eq-eqb, ne_eqb}
use Rattle.writing.proofs.Stands.{then, same_text, nothing}
use Rattle.writing.specs.Words.{option}
use Rattle.references.proofs.put_option.Goals as goal

pub returns-then-to-eq0 : goal.returns-then-to-eq0
unfolding option
returns-then-to-eq0 c = same_text (nothing _ _) (λ k. rw (eq-eqb _ 0 c.if-to-eq0.true))

pub returns : goal.returns
unfolding option
returns c = same_text (then c.put_all-m.ensures c.put_reference.ensures) (λ k. rw (ne_eqb _ 0 c.if-to-eq0.false))
