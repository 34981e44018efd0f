use mathlib.Core.Path.{refl, sym, ◌∙◌}
use native.Mathlib.Omega.{arith}
use Rattle.running.proofs.Laws.{trits_on, trits_stop, trits_end}
use Rattle.running.proofs.lent.all_trits.Goals as goal

pub loop-i-init : goal.loop-i-init
loop-i-init c = (omega arith, refl)

pub returns-then-bits-i-ge3 : goal.returns-then-bits-i-ge3
returns-then-bits-i-ge3 c =
    let l = c in
    sym (trits_stop l.args.bits.now l.loop-i.i c.loop-i-test.true c.if-bits-i-ge3.true) ∙ l.loop-i.invariant.1

pub loop-i-preserved : goal.loop-i-preserved
loop-i-preserved c =
    let l = c in
    (omega arith, sym (trits_on l.args.bits.now l.loop-i.i c.loop-i-test.true c.if-bits-i-ge3.false) ∙ l.loop-i.invariant.1)

pub returns : goal.returns
returns c = sym (trits_end c.args.bits.now c.loop-i.i c.loop-i-test.false) ∙ c.loop-i.invariant.1
