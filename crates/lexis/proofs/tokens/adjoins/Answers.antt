use Rattle.lexis.proofs.Standing.{follows_start, follows_behind}
use borrow.Author.Tests.{eq-eqb, ne_eqb}
-- The class of the byte before, asked in the definition's order.
use Rattle.lexis.proofs.tokens.adjoins.Goals as goal

pub returns-then-k-eq0 : goal.returns-then-k-eq0
returns-then-k-eq0 c = rw (c.if-k-eq0.true, follows_start)

pub returns-then-between : goal.returns-then-between
returns-then-between c = let m = c in
    rw (follows_behind _ _ m.if-k-eq0.false, ← m.byte_at.ensures, ← m.class_at-before.ensures, ← c.between.ensures, c.if-between.true)

pub returns-then-before-eq15 : goal.returns-then-before-eq15
returns-then-before-eq15 c = let m = c in
    rw (follows_behind _ _ m.if-k-eq0.false, ← m.byte_at.ensures, ← m.class_at-before.ensures, ← c.between.ensures, c.if-between.false, eq-eqb _ _ c.if-before-eq15.true)

pub returns : goal.returns
returns c = let m = c in
    rw (follows_behind _ _ m.if-k-eq0.false, ← m.byte_at.ensures, ← m.class_at-before.ensures, ← c.between.ensures, c.if-between.false, ne_eqb _ _ c.if-before-eq15.false)
