use mathlib.Core.Path.{refl, sym, ap, ◌∙◌}
use Prim.Native.Nat.{◌-◌}
use native.Mathlib.Omega.{arith}
use lib.ListN.{get_or}
use Rattle.signs.specs.Pieces.{limited, numeral_at}
use Rattle.signs.proofs.Laws.{numeral_on, numeral_stop, numeral_end}
use Rattle.signs.proofs.Bytes.{digit_range}
use Rattle.numerals.proofs.numeral_at.Goals as goal

pub loop-i-init : goal.loop-i-init
unfolding numeral_at
loop-i-init c = (omega arith, refl)

pub grown-n-requires : goal.grown-n-requires
grown-n-requires c = let p = c in
    let i = p.loop-i.i in
    let d = digit_range (get_or p.args.text.now i 0) (omega (arith, c.shared_slice_known-in-loop-i-1.given i)) (cc) in
    (p.loop-i.invariant.0, d.0, d.1)

pub loop-i-preserved : goal.loop-i-preserved
loop-i-preserved c = let p = c in
    let a = p.args in (
      c.grown-n.ensures.1,
      rw c.grown-n.ensures.0 (sym (numeral_on a.limit a.text.now p.loop-i.n p.loop-i.i c.loop-i-test.true (cc)) ∙ p.loop-i.invariant.1),
    )

pub returns-else-is_digit : goal.returns-else-is_digit
returns-else-is_digit c = let p = c in
    let a = p.args in
    c.ended.ensures ∙ ap (limited a.limit) (sym (numeral_stop a.limit a.text.now p.loop-i.n p.loop-i.i c.loop-i-test.true (cc))) ∙ p.loop-i.invariant.1

pub returns : goal.returns
returns c = let p = c in
    let a = p.args in
    c.ended-2.ensures ∙ ap (limited a.limit) (sym (numeral_end a.limit a.text.now p.loop-i.n p.loop-i.i c.loop-i-test.false)) ∙ p.loop-i.invariant.1
