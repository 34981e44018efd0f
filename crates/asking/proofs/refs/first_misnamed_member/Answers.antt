use mathlib.Core.Path.{refl, sym, ◌∙◌}
use Rattle.brackets.proofs.Steps.{tour_shrinks}
use Rattle.asking.specs.References.{misnamed_in}
use Rattle.asking.specs.declared.Asks.TheVariants.{Member}
use Rattle.asking.proofs.RefLaws.{member_wrong, member_right, members_done, walk_starts, walk_said}
use Rattle.asking.proofs.refs.first_misnamed_member.Goals as goal

pub loop-m-init : goal.loop-m-init
loop-m-init c = refl

pub returns-then-misnames : goal.returns-then-misnames
returns-then-misnames c = let a = c.args in
    let e = sym c.tour_step.ensures ∙ c.in-Some.is in
    let x = member_wrong (misnamed_in Member a.map.now a.metas.now a.n) a.text.now c.loop-m.tour _ _ e (sym c.misnames.ensures.0 ∙ c.if-misnames.true) ∙ c.loop-m.invariant ∙ walk_starts a.text.now a.members.at c.tour_of-tour.result c.tour_of-tour.ensures (misnamed_in Member a.map.now a.metas.now a.n) in
    (x, λ ns numbers m l t. x ∙ walk_said a.text.now a.members.at a.map.now a.metas.now a.n ns numbers m l t)

pub loop-m-smaller : goal.loop-m-smaller
loop-m-smaller c = let a = c.args in tour_shrinks a.text.now c.loop-m.tour _ _ (sym c.tour_step.ensures ∙ c.in-Some.is)

pub loop-m-preserved : goal.loop-m-preserved
loop-m-preserved c = let a = c.args in
    member_right (misnamed_in Member a.map.now a.metas.now a.n) a.text.now c.loop-m.tour _ _ (sym c.tour_step.ensures ∙ c.in-Some.is) (sym c.misnames.ensures.0 ∙ c.if-misnames.false) ∙ c.loop-m.invariant

pub returns : goal.returns
returns c = let a = c.args in
    let x = members_done (misnamed_in Member a.map.now a.metas.now a.n) a.text.now c.loop-m.tour (sym c.tour_step.ensures ∙ c.in_default.is) ∙ c.loop-m.invariant ∙ walk_starts a.text.now a.members.at c.tour_of-tour.result c.tour_of-tour.ensures (misnamed_in Member a.map.now a.metas.now a.n) in
    (x, λ ns numbers m l t. x ∙ walk_said a.text.now a.members.at a.map.now a.metas.now a.n ns numbers m l t)
