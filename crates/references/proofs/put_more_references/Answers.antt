use Prim.Native.Nat.{◌-◌}
use mathlib.Core.Path.{refl, ◌∙◌}
use Rattle.writing.proofs.Stands.{start, then}
use Rattle.writing.proofs.Parts.{members_turn, members_end}
use borrow.Author.Rules.{rules}
use Rattle.references.proofs.put_more_references.Goals as goal

pub loop-i-init : goal.loop-i-init
loop-i-init c = (refl, start _ _ _)

pub loop-i-preserved : goal.loop-i-preserved
loop-i-preserved c = let p = c in
    (c.put_reference-n.auto.room ∙ (c.put-m.auto.room ∙ p.loop-i.invariant.0), members_turn _ _ _ p.loop-i.invariant.1 c.loop-i-test.true (search rules) (then c.put-m.ensures c.put_reference-n.ensures))

pub returns : goal.returns
returns c = members_end _ _ _ c.loop-i.invariant.1 c.loop-i-test.false
