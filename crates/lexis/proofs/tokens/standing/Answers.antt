use mathlib.Core.Path.{◌∙◌, sym}
use Rattle.lexis.proofs.Standing.{standing_end, standing_at_lem}
use borrow.Author.Tests.{eq-eqb, ne_eqb}
-- The tests of the code are those of the definition at a byte of the text, in its order.
use Rattle.lexis.proofs.tokens.standing.Goals as goal

pub returns-then-text-k : goal.returns-then-text-k
returns-then-text-k c = c.took_plain.ensures ∙ sym (standing_end _ _ c.if-text-k.true)

pub returns-then-c-eq2 : goal.returns-then-c-eq2
returns-then-c-eq2 c = let m = c in
    rw (standing_at_lem _ _ m.if-text-k.false, ← m.class_at-c.ensures, eq-eqb _ _ c.if-c-eq2.true) c.took_plain-then-c-eq2.ensures

pub returns-then-b-eq13 : goal.returns-then-b-eq13
returns-then-b-eq13 c = let m = c in
    rw (standing_at_lem _ _ m.if-text-k.false, ← m.class_at-c.ensures, ne_eqb _ _ c.if-c-eq2.false, eq-eqb _ _ c.if-b-eq13.true) c.took_plain-then-b-eq13.ensures

pub returns-then-b-eq59 : goal.returns-then-b-eq59
returns-then-b-eq59 c = let m = c in
    rw (standing_at_lem _ _ m.if-text-k.false, ← m.class_at-c.ensures, ne_eqb _ _ c.if-c-eq2.false, ne_eqb _ _ c.if-b-eq13.false, eq-eqb _ _ c.if-b-eq59.true, ← c.comment_end-end.ensures) c.took_plain-then-b-eq59.ensures

pub returns-then-c-eq15 : goal.returns-then-c-eq15
returns-then-c-eq15 c = let m = c in
    rw (standing_at_lem _ _ m.if-text-k.false, ← m.class_at-c.ensures, ne_eqb _ _ c.if-c-eq2.false, ne_eqb _ _ c.if-b-eq13.false, ne_eqb _ _ c.if-b-eq59.false, eq-eqb _ _ c.if-c-eq15.true, ← c.wide.ensures) c.took_plain-then-c-eq15.ensures

pub returns-then-adjoins : goal.returns-then-adjoins
returns-then-adjoins c = let m = c in
    rw (standing_at_lem _ _ m.if-text-k.false, ← m.class_at-c.ensures, ne_eqb _ _ c.if-c-eq2.false, ne_eqb _ _ c.if-b-eq13.false, ne_eqb _ _ c.if-b-eq59.false, ne_eqb _ _ c.if-c-eq15.false, ← c.adjoins.ensures, c.if-adjoins.true) c.refused.ensures

pub returns : goal.returns
returns c = let m = c in
    rw (standing_at_lem _ _ m.if-text-k.false, ← m.class_at-c.ensures, ne_eqb _ _ c.if-c-eq2.false, ne_eqb _ _ c.if-b-eq13.false, ne_eqb _ _ c.if-b-eq59.false, ne_eqb _ _ c.if-c-eq15.false, ← c.adjoins.ensures, c.if-adjoins.false) c.long.ensures
