use Prim.Native.Nat.{◌-◌}
use mathlib.Core.Path.{refl, ◌∙◌}
use native.Mathlib.Omega.{arith}
use Rattle.writing.proofs.Stands.{start, word_turn, word_end}
use Rattle.writing.proofs.room.put_all.Goals as goal

pub loop-i-init : goal.loop-i-init
loop-i-init c = (refl, omega arith, start _ _ _)

pub loop-i-preserved : goal.loop-i-preserved
loop-i-preserved c = let p = c in
    (c.put-n.auto.room ∙ p.loop-i.invariant.0, omega arith, word_turn _ _ p.loop-i.invariant.2 c.loop-i-test.true c.put-n.ensures)

pub returns : goal.returns
returns c = word_end _ _ c.loop-i.invariant.2 c.loop-i-test.false
