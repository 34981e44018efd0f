use Rattle.metas.proofs.MetaLaws.{tour_whole, member_small, member_room, member_more, members_done}
use Rattle.brackets.proofs.Steps.{tour_shrinks}
use lib.ListN.{length-set}
use native.Mathlib.Omega.{arith}
use mathlib.Core.Path.{refl, sym, ◌∙◌}
use Rattle.metas.proofs.put_set.Goals as goal

pub loop-m-init : goal.loop-m-init
loop-m-init c = let a = c.args in let w = tour_whole a.text.now a.members.at c.tour_of-tour.result c.tour_of-tour.ensures in (refl, rw w c.requires.1, λ ns m. refl)

pub offset_bounds-pool-to : goal.offset_bounds-pool-to
offset_bounds-pool-to c = let r = member_room c.args.text.now c.loop-m.tour _ _ (sym c.tour_step.ensures ∙ c.in-Some.is) c.loop-m.to _ c.loop-m.invariant.1 in omega (arith, r.0)

pub bounds-pool-to : goal.bounds-pool-to
bounds-pool-to c = let r = member_room c.args.text.now c.loop-m.tour _ _ (sym c.tour_step.ensures ∙ c.in-Some.is) c.loop-m.to _ c.loop-m.invariant.1 in omega (arith, r.0, c.loop-m.invariant.0)

pub overflow_add-to : goal.overflow_add-to
overflow_add-to c = let r = member_room c.args.text.now c.loop-m.tour _ _ (sym c.tour_step.ensures ∙ c.in-Some.is) c.loop-m.to _ c.loop-m.invariant.1 in omega (arith, r.0)

pub loop-m-smaller : goal.loop-m-smaller
loop-m-smaller c = tour_shrinks c.args.text.now c.loop-m.tour _ _ (sym c.tour_step.ensures ∙ c.in-Some.is)

pub loop-m-preserved : goal.loop-m-preserved
loop-m-preserved c = let t = c.args.text.now in let e = sym c.tour_step.ensures ∙ c.in-Some.is in let r = member_room t c.loop-m.tour _ _ e c.loop-m.to _ c.loop-m.invariant.1 in (simp length-set c.loop-m.invariant.0, r.1, λ ns m. member_more t c.loop-m.tour _ _ e ns c.loop-m.pool c.loop-m.to _ (c.ref_row.ensures.1 ns m (member_small t c.loop-m.tour _ _ e)) ∙ c.loop-m.invariant.2 ns m)

pub shape_of-pool : goal.shape_of-pool
shape_of-pool c = c.loop-m.invariant.0

pub returns : goal.returns
returns c = let a = c.args in let f = c.tour_of-tour in let w = tour_whole a.text.now a.members.at f.result f.ensures in λ ns m. members_done a.text.now c.loop-m.tour (sym c.tour_step.ensures ∙ c.in_default.is) ns c.loop-m.pool c.loop-m.to ∙ c.loop-m.invariant.2 ns m ∙ rw w
