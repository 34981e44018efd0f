use lib.ListN.{get_or}
use mathlib.Core.Path.{refl, ◌∙◌}
use Prim.Native.Nat.{◌-◌}
use native.Mathlib.Omega.{arith}
use borrow.Author.Tests.{lt-ltb, le-ltb}
use Rattle.netlist.specs.Rules.{is_trit}
use Rattle.pools.proofs.Laws.{every_on, every_off, every_end}
use Rattle.pools.proofs.all_trits.Goals as goal

pub loop-i-init : goal.loop-i-init
loop-i-init c = refl

pub returns-then-bits-i-gt2 : goal.returns-then-bits-i-gt2
returns-then-bits-i-gt2 c = let p = c in let t = p.args.bits.now in every_off is_trit t p.loop-i.i c.loop-i-test.true (le-ltb (get_or t p.loop-i.i 0) 3 (omega (arith, c.if-bits-i-gt2.true))) ∙ p.loop-i.invariant

pub loop-i-preserved : goal.loop-i-preserved
loop-i-preserved c = let p = c in let t = p.args.bits.now in every_on is_trit t p.loop-i.i c.loop-i-test.true (lt-ltb (get_or t p.loop-i.i 0) 3 (omega (arith, c.if-bits-i-gt2.false))) ∙ p.loop-i.invariant

pub returns : goal.returns
returns c = let p = c in every_end is_trit p.args.bits.now p.loop-i.i c.loop-i-test.false ∙ p.loop-i.invariant
