use mathlib.Core.Path.{sym, ◌∙◌}
use native.Mathlib.Omega.{arith}
use Rattle.cells.proofs.Places as places
use Rattle.cellvalues.proofs.compare.eq_bit.Goals as goal

pub loop-i-init : goal.loop-i-init
loop-i-init c = let a = c.args in (c.least-n.ensures, places.eq_all a.a.now a.b.now)

pub returns-then-clashes : goal.returns-then-clashes
returns-then-clashes c =
    let l = c in
    let a = c.args in
    sym (places.eq_stop a.a.now a.b.now l.loop-i.i l.loop-i.told (omega (arith, l.loop-i.invariant.0)) (omega (arith, l.loop-i.invariant.0)) (sym c.clashes.ensures ∙ c.if-clashes.true)) ∙ l.loop-i.invariant.1

pub loop-i-preserved : goal.loop-i-preserved
loop-i-preserved c =
    let l = c in
    let a = c.args in
    (l.loop-i.invariant.0, rw c.told_at-told.ensures (sym (places.eq_go a.a.now a.b.now l.loop-i.i l.loop-i.told (omega (arith, l.loop-i.invariant.0)) (omega (arith, l.loop-i.invariant.0)) (sym c.clashes.ensures ∙ c.if-clashes.false)) ∙ l.loop-i.invariant.1))

pub returns : goal.returns
returns c =
    let l = c in
    let a = c.args in
    sym (places.eq_end a.a.now a.b.now l.loop-i.i l.loop-i.told (omega (arith, l.loop-i.invariant.0))) ∙ l.loop-i.invariant.1
