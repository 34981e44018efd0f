use mathlib.Core.Path.{◌∙◌}
use Rattle.lexis.specs.Tokens.{long_of}
use borrow.Author.Tests.{eq-eqb, ne_eqb}
use Rattle.lexis.proofs.Cells.{cell_begun}
-- The tests of the code are those of the definition, with the one for cells put first.
use Rattle.lexis.proofs.tokens.long.Goals as goal

pub returns-then-b-eq37 : goal.returns-then-b-eq37
returns-then-b-eq37 c = let a = c.args in
    c.cell.ensures ∙ cell_begun a.text.now a.k a.b c.if-b-eq37.true

pub returns-then-in_classes : goal.returns-then-in_classes
unfolding long_of
returns-then-in_classes c = rw (← c.in_classes.ensures, c.if-in_classes.true) c.word.ensures

pub returns-then-in_classes-2 : goal.returns-then-in_classes-2
unfolding long_of
returns-then-in_classes-2 c = rw (← c.in_classes.ensures, c.if-in_classes.false, ← c.in_classes-2.ensures, c.if-in_classes-2.true) c.constant.ensures

pub returns-then-b-eq35 : goal.returns-then-b-eq35
unfolding long_of
returns-then-b-eq35 c = let m = c in
    rw (← m.in_classes.ensures, m.if-in_classes.false, ← m.in_classes-2.ensures, c.if-in_classes-2.false, eq-eqb _ _ c.if-b-eq35.true) c.number.ensures

pub returns-then-b-eq33 : goal.returns-then-b-eq33
unfolding long_of
returns-then-b-eq33 c = let m = c in
    rw (← m.in_classes.ensures, m.if-in_classes.false, ← m.in_classes-2.ensures, c.if-in_classes-2.false, ne_eqb _ _ c.if-b-eq35.false, eq-eqb _ _ c.if-b-eq33.true) c.meta.ensures

pub returns-then-b-eq38 : goal.returns-then-b-eq38
unfolding long_of
returns-then-b-eq38 c = let m = c in
    rw (← m.in_classes.ensures, m.if-in_classes.false, ← m.in_classes-2.ensures, c.if-in_classes-2.false, ne_eqb _ _ c.if-b-eq35.false, ne_eqb _ _ c.if-b-eq33.false, eq-eqb _ _ c.if-b-eq38.true) c.io.ensures

pub returns-then-b-eq34 : goal.returns-then-b-eq34
unfolding long_of
returns-then-b-eq34 c = let m = c in
    rw (← m.in_classes.ensures, m.if-in_classes.false, ← m.in_classes-2.ensures, c.if-in_classes-2.false, ne_eqb _ _ c.if-b-eq35.false, ne_eqb _ _ c.if-b-eq33.false, ne_eqb _ _ c.if-b-eq38.false, ne_eqb _ _ m.if-b-eq37.false, eq-eqb _ _ c.if-b-eq34.true) c.string.ensures

pub returns : goal.returns
unfolding long_of
returns c = let m = c in
    rw (← m.in_classes.ensures, m.if-in_classes.false, ← m.in_classes-2.ensures, c.if-in_classes-2.false, ne_eqb _ _ c.if-b-eq35.false, ne_eqb _ _ c.if-b-eq33.false, ne_eqb _ _ c.if-b-eq38.false, ne_eqb _ _ m.if-b-eq37.false, ne_eqb _ _ c.if-b-eq34.false) c.refused.ensures
