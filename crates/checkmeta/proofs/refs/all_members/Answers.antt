use mathlib.Core.Path.{refl, sym, ◌∙◌}
use Rattle.netlist.specs.Rules.{refers, is_member}
use Rattle.checkmeta.specs.Fields.{kinds_in}
use Rattle.pools.proofs.Laws.{every_on, every_off, every_end}
use Rattle.checkmeta.proofs.refs.all_members.Goals as goal

pub loop-member-init : goal.loop-member-init
loop-member-init c = refl

pub loop-member-preserved : goal.loop-member-preserved
loop-member-preserved c = let p = c in let a = p.args in every_on (refers is_member (kinds_in a.n a.metas.now)) a.members.now p.loop-member.member-index c.loop-member-test.true (sym c.refers_to.ensures ∙ c.if-not-refers_to.false) ∙ p.loop-member.invariant

pub returns-then-not-refers_to : goal.returns-then-not-refers_to
returns-then-not-refers_to c = let p = c in let a = p.args in every_off (refers is_member (kinds_in a.n a.metas.now)) a.members.now p.loop-member.member-index c.loop-member-test.true (sym c.refers_to.ensures ∙ c.if-not-refers_to.true) ∙ p.loop-member.invariant

pub returns : goal.returns
returns c = let p = c in let a = p.args in every_end (refers is_member (kinds_in a.n a.metas.now)) a.members.now p.loop-member.member-index c.loop-member-test.false ∙ p.loop-member.invariant
