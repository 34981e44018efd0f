use Prim.Native.Nat.{◌-◌}
use native.Mathlib.Omega.{arith}
use mathlib.Core.Path.{sym, ◌∙◌}
use Rattle.checking.proofs.Laws.{io_again, io_once}
use Rattle.checking.proofs.Marking.{ios_start, ios_back, ios_still, ios_early, ios_first}
use Rattle.checking.proofs.names.ios_marked.Goals as goal

pub loop-i-init : goal.loop-i-init
loop-i-init c = let a = c.args in let s = ios_start a.strings.now a.n a.ios.now a.seen.now c.requires.1 in (omega arith, s.0, s.1)

pub io_again-requires : goal.io_again-requires
io_again-requires c = let a = c.args in let p = c.loop-i in (omega (arith, p.invariant.0), c.requires.0, ios_back a.strings.now a.n a.ios.now p.seen p.i c.loop-i-test.true p.invariant.1)

pub returns-then-io_again : goal.returns-then-io_again
returns-then-io_again c = let a = c.args in let p = c.loop-i in ios_early a.strings.now a.n a.ios.now (p.i - 1) (omega (arith, p.invariant.0)) (io_again a.strings.now a.n (p.i - 1) a.ios.now (omega (arith, p.invariant.0)) (sym c.if-io_again.true ∙ c.io_again.ensures.0))

pub loop-i-preserved : goal.loop-i-preserved
loop-i-preserved c = let a = c.args in let p = c.loop-i in (omega (arith, p.invariant.0), c.io_again.ensures.1, sym (io_once a.strings.now a.n (p.i - 1) a.ios.now (omega (arith, p.invariant.0)) (sym c.if-io_again.false ∙ c.io_again.ensures.0)) ∙ ios_still a.strings.now a.n a.ios.now p.seen p.i c.loop-i-test.true p.invariant.2)

pub returns : goal.returns
returns c = let a = c.args in let p = c.loop-i in ios_first a.strings.now a.n a.ios.now p.i c.loop-i-test.false p.invariant.2
