use Rattle.signs.specs.Pieces.{quoted_at}
use Rattle.signs.proofs.Laws.{quoted_start, quoted_end, quoted_close, quoted_stop, quoted_on}
use Prim.Native.Nat.{◌-◌}
use native.Mathlib.Omega.{arith}
use borrow.Author.Tests.{eq-eqb, ne_eqb}
use Rattle.strings.proofs.quoted_at.Goals as goal

pub loop-i-init : goal.loop-i-init
unfolding quoted_at
loop-i-init c = (omega arith, quoted_start _ _)

pub returns-then-b-eq34 : goal.returns-then-b-eq34
returns-then-b-eq34 c = let p = c in
    let t = p.args.text.now in
    cc (quoted_close p.loop-i.size t p.loop-i.i c.loop-i-test.true (eq-eqb _ _ c.if-b-eq34.true))

pub returns-then-n-eq0 : goal.returns-then-n-eq0
returns-then-n-eq0 c = let p = c in
    let t = p.args.text.now in
    cc (quoted_stop p.loop-i.size t p.loop-i.i c.loop-i-test.true c.taken-n.result (ne_eqb _ _ c.if-b-eq34.false) c.taken-n.ensures.0 (eq-eqb _ _ c.if-n-eq0.true))

pub loop-i-preserved : goal.loop-i-preserved
loop-i-preserved c = let p = c in
    let t = p.args.text.now in
    let on = quoted_on p.loop-i.size t p.loop-i.i c.loop-i-test.true c.taken-n.result (ne_eqb _ _ c.if-b-eq34.false) c.taken-n.ensures.0 (ne_eqb _ _ c.if-n-eq0.false) in
    (omega arith, cc (on))

pub returns : goal.returns
returns c = let p = c in cc (quoted_end p.loop-i.size p.args.text.now p.loop-i.i c.loop-i-test.false)
