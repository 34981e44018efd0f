use mathlib.Core.Path.{sym, ◌∙◌}
use borrow.Author.Tests.{eq-eqb, ne_eqb}
use Rattle.taken.proofs.is_namesake.Goals as goal

pub returns-then-size-eq0 : goal.returns-then-size-eq0
returns-then-size-eq0 c = rw (eq-eqb _ _ c.if-long-size.true, eq-eqb _ 0 c.if-size-eq0.true)

pub same_string-requires : goal.same_string-requires
same_string-requires c = let p = c.requires in let e = c.if-long-size.true in (p.0, sym e ∙ p.1.is (λ z. c.if-size-eq0.false (sym e ∙ z)))

pub returns-then-long-size : goal.returns-then-long-size
returns-then-long-size c = rw (eq-eqb _ _ c.if-long-size.true, ne_eqb _ 0 c.if-size-eq0.false) c.same_string.ensures

pub returns : goal.returns
returns c = rw (ne_eqb _ _ c.if-long-size.false)
