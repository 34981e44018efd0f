use Rattle.brackets.specs.Walks.{parts_left, parts_on}
use Rattle.brackets.proofs.Steps.{walk_starts, walk_goes, walk_shrinks}
use Rattle.resolving.specs.Resolving.{base_lost, lost_from}
use Rattle.resolving.proofs.Finding.{part_stop, part_on, part_none}
use mathlib.Core.Path.{refl, sym, ap, ◌∙◌}
use Rattle.resolving.proofs.lost_in.Goals as goal

pub loop-part-init : goal.loop-part-init
loop-part-init c = refl

pub returns : goal.returns
returns c = let a = c.args in
    let l = c.loop-part in
    let e = sym c.walk_next.ensures ∙ c.in_default.is in
    sym (part_none a.map.now a.cells.now) ∙ ap (λ (v : _). lost_from a.map.now a.cells.now (parts_on a.text.now v)) (sym e) ∙ ap (lost_from a.map.now a.cells.now) (sym (walk_goes a.text.now l.walk)) ∙ l.invariant
    ∙ ap (lost_from a.map.now a.cells.now) (ap (parts_left a.text.now) c.operand_walk-walk.ensures ∙ walk_starts a.text.now a.operand)

pub returns-then-is_lost : goal.returns-then-is_lost
returns-then-is_lost c = let a = c.args in
    let l = c.loop-part in
    let e = sym c.walk_next.ensures ∙ c.in-Some.is in
    let lost = sym (ap (base_lost a.map.now a.cells.now) c.base_of.ensures) ∙ sym c.is_lost.ensures ∙ c.if-is_lost.true in
    sym (part_stop a.map.now a.cells.now _ _ lost) ∙ ap (λ (v : _). lost_from a.map.now a.cells.now (parts_on a.text.now v)) (sym e) ∙ ap (lost_from a.map.now a.cells.now) (sym (walk_goes a.text.now l.walk)) ∙ l.invariant
    ∙ ap (lost_from a.map.now a.cells.now) (ap (parts_left a.text.now) c.operand_walk-walk.ensures ∙ walk_starts a.text.now a.operand)

pub loop-part-smaller : goal.loop-part-smaller
loop-part-smaller c = let a = c.args in walk_shrinks a.text.now c.loop-part.walk _ _ _ (sym c.walk_next.ensures ∙ c.in-Some.is)

pub loop-part-preserved : goal.loop-part-preserved
loop-part-preserved c = let a = c.args in
    let l = c.loop-part in
    let e = sym c.walk_next.ensures ∙ c.in-Some.is in
    let found = sym (ap (base_lost a.map.now a.cells.now) c.base_of.ensures) ∙ sym c.is_lost.ensures ∙ c.if-is_lost.false in
    sym (part_on a.map.now a.cells.now _ _ found) ∙ ap (λ (v : _). lost_from a.map.now a.cells.now (parts_on a.text.now v)) (sym e) ∙ ap (lost_from a.map.now a.cells.now) (sym (walk_goes a.text.now l.walk)) ∙ l.invariant
