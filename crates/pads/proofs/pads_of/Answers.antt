use Prim.Native.Nat.{◌<◌}
use mathlib.Core.Path.{◌∙◌}
use native.Mathlib.Omega.{arith}
use lib.ListN.{length, length-set}
use borrow.Author.Rules.{rules}
use Rattle.pads.proofs.Filled.{filled_none, filled_more, filled_all}
use Rattle.pads.proofs.pads_of.Goals as goal

pub loop-i-init : goal.loop-i-init
loop-i-init c = (search rules, search rules, filled_none _ _)

pub loop-i-preserved : goal.loop-i-preserved
loop-i-preserved c =
    let p = c.loop-i in
    let a = c.args in
    let t = c.loop-i-test.true in
    let h : p.i < length p.pads = omega (arith, p.invariant.1, t) in
    (omega (arith, t), length-set p.pads p.i _ ∙ p.invariant.1, filled_more a.ios.now p.i p.pads _ t h c.pad_at.ensures p.invariant.2)

pub returns : goal.returns
returns c =
    let p = c.loop-i in
    filled_all c.args.ios.now p.i p.pads p.invariant.1 c.loop-i-test.false p.invariant.2
