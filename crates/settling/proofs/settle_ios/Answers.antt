use Rattle.settling.proofs.Ios.{ios_start, ios_here, ios_more, ios_end, noted_long}
use native.Mathlib.Omega.{arith}
use mathlib.Core.Path.{◌≡◌, refl, ◌∙◌}
use Prim.Native.Nat.{◌+◌, ◌-◌, ◌*◌}
use borrow.Author.Rules.{rules}
use Rattle.settling.proofs.settle_ios.Goals as goal

pub loop-i-init : goal.loop-i-init
loop-i-init c = let a = c.args in
    (omega arith, refl, refl, λ ns d. ios_start a.text.now ns a.first a.n a.ios.now a.strings.now d)

pub overflow_mul-k : goal.overflow_mul-k
overflow_mul-k c = let g = c.requires.0 in let few = g.noted.few in let p = c.args in let long = noted_long p.text.now g.notes p.n p.first p.ios.now g.noted in omega (arith, few)

pub overflow_add-k : goal.overflow_add-k
overflow_add-k c = let g = c.requires.0 in let few = g.noted.few in let p = c.args in let long = noted_long p.text.now g.notes p.n p.first p.ios.now g.noted in omega (arith, few)

pub offset_bounds-ios-k : goal.offset_bounds-ios-k
offset_bounds-ios-k c = let g = c.requires.0 in let few = g.noted.few in let p = c.args in let long = noted_long p.text.now g.notes p.n p.first p.ios.now g.noted in omega (arith, few, long)

pub slice_bounds-settle_io-count : goal.slice_bounds-settle_io-count
slice_bounds-settle_io-count c = let g = c.requires.0 in let few = g.noted.few in let p = c.args in let long = noted_long p.text.now g.notes p.n p.first p.ios.now g.noted in omega (arith, few, long)

pub slice_bounds-settle_io-end : goal.slice_bounds-settle_io-end
slice_bounds-settle_io-end c = let g = c.requires.0 in let few = g.noted.few in let p = c.args in let long = noted_long p.text.now g.notes p.n p.first p.ios.now g.noted in let same = c.loop-i.invariant.1 in omega (arith, few, long, same)

pub settle_io-s-requires : goal.settle_io-s-requires
settle_io-s-requires c = let g = c.requires.0 in
    let a = c.args in
    let l = c.loop-i in
    let w : (l.i * 3 + 3) - l.i * 3 ≡ 3 = omega arith in
    rw w (ios_here a.text.now g.notes a.first a.strings.now a.n l.i l.ios l.strings l.s c.loop-i-test.true g.noted.strings (l.invariant.2 ∙ c.requires.1) (l.invariant.3 g.notes g.noted))

pub loop-i-preserved : goal.loop-i-preserved
loop-i-preserved c = let a = c.args in
    let l = c.loop-i in
    let m = c.settle_io-s in
    let w : (l.i * 3 + 3) - l.i * 3 ≡ 3 = omega arith in (
      omega arith,
      search (rules, l.invariant.1),
      search (rules, l.invariant.2),
      λ ns d. rw (m.ensures.0, m.ensures.1, m.ensures.2) (ios_more a.text.now ns a.first a.strings.now a.n l.i l.ios l.strings l.s c.loop-i-test.true (l.invariant.3 ns d) _ w),
    )

pub shape_of-ios : goal.shape_of-ios
shape_of-ios c = c.loop-i.invariant.1

pub shape_of-strings : goal.shape_of-strings
shape_of-strings c = c.loop-i.invariant.2

pub returns : goal.returns
returns c = let a = c.args in
    let l = c.loop-i in
    λ ns d. ios_end a.text.now ns a.first a.strings.now a.n l.i l.ios l.strings l.s c.loop-i-test.false (l.invariant.3 ns d)
