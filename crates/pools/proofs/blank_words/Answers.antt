use mathlib.Core.Path.{refl, ◌∙◌}
use Prim.Native.Nat.{◌-◌}
use Rattle.pools.proofs.Laws.{blank_on, blank_off, blank_end}
use Rattle.pools.proofs.blank_words.Goals as goal

pub loop-i-init : goal.loop-i-init
loop-i-init c = refl

pub returns-then-table-i-ne0 : goal.returns-then-table-i-ne0
returns-then-table-i-ne0 c = let p = c in blank_off p.args.table.now p.loop-i.i c.loop-i-test.true c.if-table-i-ne0.true ∙ p.loop-i.invariant

pub loop-i-preserved : goal.loop-i-preserved
loop-i-preserved c = let p = c in blank_on p.args.table.now p.loop-i.i c.loop-i-test.true c.if-table-i-ne0.false ∙ p.loop-i.invariant

pub returns : goal.returns
returns c = let p = c in blank_end p.args.table.now p.loop-i.i c.loop-i-test.false ∙ p.loop-i.invariant
