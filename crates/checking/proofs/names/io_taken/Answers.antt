use Prim.Native.Nat.{◌*◌}
use native.Mathlib.Omega.{arith}
use mathlib.Core.Path.{refl, sym, ◌∙◌}
use lib.ListN.{drop}
use Rattle.checking.proofs.Laws.{io_hit, io_miss, io_none}
use Rattle.checking.proofs.names.io_taken.Goals as goal

pub loop-i-init : goal.loop-i-init
loop-i-init c = (c.requires.0, refl)

pub io_named-requires : goal.io_named-requires
io_named-requires c = let p = c.loop-i in (omega (arith, c.requires.1.long, c.loop-i-test.true), c.requires.1.each p.i c.loop-i-test.true)

pub returns-then-io_named : goal.returns-then-io_named
returns-then-io_named c = let a = c.args in let p = c.loop-i in io_hit a.strings.now a.n p.i a.ios.now c.loop-i-test.true a.name.now (sym c.if-io_named.true ∙ c.io_named.ensures) ∙ p.invariant.1

pub loop-i-preserved : goal.loop-i-preserved
loop-i-preserved c = let a = c.args in let p = c.loop-i in (omega arith, io_miss a.strings.now a.n p.i a.ios.now c.loop-i-test.true a.name.now (sym c.if-io_named.false ∙ c.io_named.ensures) ∙ p.invariant.1)

pub returns : goal.returns
returns c = let a = c.args in let p = c.loop-i in io_none a.strings.now a.n p.i (drop (p.i * 3) a.ios.now) a.name.now c.loop-i-test.false ∙ p.invariant.1
