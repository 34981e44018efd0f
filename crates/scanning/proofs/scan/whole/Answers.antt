use mathlib.Core.Option.{some}
use Prim.Native.Nat.{◌-◌}
use mathlib.Core.Path.{sym, ap, ◌∙◌}
use native.Mathlib.Omega.{arith}
use Rattle.scanning.specs.Modes.{lacking}
use Rattle.scanning.proofs.Sequences.{bad_on, bad_stop, bad_open, bad_none, whole_long, whole_bad, whole_empty, whole_fed, whole_unfed}
use Rattle.scanning.proofs.scan.whole.Goals as goal

pub returns-then-size-gt65536 : goal.returns-then-size-gt65536
returns-then-size-gt65536 c = c.refused.ensures ∙ sym (whole_long c.args.text.now c.if-size-gt65536.true)

pub loop-i-init : goal.loop-i-init
unfolding lacking
loop-i-init c = sym (c.past_plain-i.ensures.same 0)

pub returns-then-mode-eq9 : goal.returns-then-mode-eq9
returns-then-mode-eq9 c = let p = c in
    let e = bad_stop p.args.text.now p.loop-i.mode p.loop-i.from p.loop-i.i _ c.loop-i-test.true c.past-mode.ensures c.if-mode-eq9.true in
    c.refused-then-mode-eq9.ensures ∙ sym (whole_bad p.args.text.now _ p.if-size-gt65536.false (sym p.loop-i.invariant ∙ e ∙ ap some (sym c.began-from.ensures)))

pub loop-i-smaller : goal.loop-i-smaller
loop-i-smaller c = omega (arith, c.onward-i.ensures.on)

pub loop-i-preserved : goal.loop-i-preserved
loop-i-preserved c = let p = c in
    let e = bad_on p.args.text.now p.loop-i.mode p.loop-i.from p.loop-i.i _ c.loop-i-test.true c.past-mode.ensures c.if-mode-eq9.false in
    sym (c.onward-i.ensures.same _) ∙ rw c.began-from.ensures (sym e ∙ p.loop-i.invariant)

pub returns-then-mode-ne0 : goal.returns-then-mode-ne0
returns-then-mode-ne0 c = let p = c in
    c.refused-then-mode-ne0.ensures ∙ sym (whole_bad p.args.text.now _ p.if-size-gt65536.false (sym p.loop-i.invariant ∙ bad_open p.args.text.now p.loop-i.mode p.loop-i.from p.loop-i.i c.loop-i-test.false c.if-mode-ne0.true))

pub returns-then-size-eq0 : goal.returns-then-size-eq0
returns-then-size-eq0 c = let p = c in
    let e = sym p.loop-i.invariant ∙ bad_none p.args.text.now p.loop-i.mode p.loop-i.from p.loop-i.i c.loop-i-test.false c.if-mode-ne0.false in
    c.refused-then-size-eq0.ensures ∙ sym (whole_empty p.args.text.now p.if-size-gt65536.false e c.if-size-eq0.true)

pub returns-then-text-size-eq10 : goal.returns-then-text-size-eq10
returns-then-text-size-eq10 c = let p = c in
    let e = sym p.loop-i.invariant ∙ bad_none p.args.text.now p.loop-i.mode p.loop-i.from p.loop-i.i c.loop-i-test.false c.if-mode-ne0.false in
    sym (whole_fed p.args.text.now p.if-size-gt65536.false e (omega (arith, c.if-size-eq0.false)) c.if-text-size-eq10.true)

pub returns : goal.returns
returns c = let p = c in
    let e = sym p.loop-i.invariant ∙ bad_none p.args.text.now p.loop-i.mode p.loop-i.from p.loop-i.i c.loop-i-test.false c.if-mode-ne0.false in
    c.refused-2.ensures ∙ sym (whole_unfed p.args.text.now p.if-size-gt65536.false e (omega (arith, c.if-size-eq0.false)) c.if-text-size-eq10.false)
