use Prim.Native.Nat.{suc, ◌+◌, ◌-◌}
use mathlib.Core.Path.{◌≡◌, refl, ◌∙◌}
use native.Mathlib.Omega.{arith}
use Rattle.writing.proofs.Stands.{start}
use Rattle.writing.proofs.Digits.{digit_turn, digit_last}
use borrow.Author.Rules.{rules}
use Rattle.decimals.proofs.put_digits.Goals as goal

pub loop-i-init : goal.loop-i-init
loop-i-init c = (refl, search rules, search rules, start _ _ _)

pub split_at-s-requires : goal.split_at-s-requires
split_at-s-requires c = let k : c.loop-i.i - 1 + 1 ≡ c.loop-i.i = omega arith in (omega (arith, c.loop-i.invariant.1), rw k c.loop-i.invariant.2)

pub loop-i-preserved : goal.loop-i-preserved
loop-i-preserved c = let p = c in
    let k : p.loop-i.i - 1 + 1 ≡ p.loop-i.i = omega arith in
    let s = rw k at c.split_at-s.ensures in
    let h = c.loop-i-test.true in
    let e : suc (p.loop-i.i - 1) ≡ p.loop-i.i = omega arith in (
      c.put-n.auto.room ∙ p.loop-i.invariant.0,
      omega (arith, p.loop-i.invariant.1),
      rw e s.less,
      digit_turn _ _ _ p.loop-i.invariant.3 c.put-n.ensures _ _ h s c.digit_byte.ensures,
    )

pub digit_byte-requires-2 : goal.digit_byte-requires-2
digit_byte-requires-2 c = let z : c.loop-i.i ≡ 0 = omega arith in omega (arith, rw z at c.loop-i.invariant.2)

pub shape_of-room : goal.shape_of-room
shape_of-room c = c.put.auto.room ∙ c.loop-i.invariant.0

pub returns : goal.returns
returns c = digit_last _ _ _ c.loop-i.invariant.3 c.put.ensures (omega arith) c.digit_byte-2.ensures
