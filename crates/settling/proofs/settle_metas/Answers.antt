use Rattle.settling.proofs.Metas.{metas_start, metas_here, metas_more, metas_end, limits, noted_long}
use native.Mathlib.Omega.{arith}
use mathlib.Core.Path.{◌≡◌, refl, ◌∙◌}
use Prim.Native.Nat.{◌+◌, ◌-◌, ◌*◌}
use borrow.Author.Rules.{rules}
use Rattle.settling.proofs.settle_metas.Goals as goal

pub loop-i-init : goal.loop-i-init
loop-i-init c = let a = c.args in
    (omega arith, refl, refl, λ ns d. metas_start a.text.now ns a.n a.metas.now a.strings.now _ refl refl refl d)

pub overflow_mul-k : goal.overflow_mul-k
overflow_mul-k c = let g = c.requires.0 in let few = g.noted.few in let p = c.args in let long = noted_long p.text.now g.notes p.n p.metas.now g.noted in omega (arith, few)

pub overflow_add-k : goal.overflow_add-k
overflow_add-k c = let g = c.requires.0 in let few = g.noted.few in let p = c.args in let long = noted_long p.text.now g.notes p.n p.metas.now g.noted in omega (arith, few)

pub offset_bounds-metas-k : goal.offset_bounds-metas-k
offset_bounds-metas-k c = let g = c.requires.0 in let few = g.noted.few in let p = c.args in let long = noted_long p.text.now g.notes p.n p.metas.now g.noted in omega (arith, few, long)

pub slice_bounds-settle_meta-count : goal.slice_bounds-settle_meta-count
slice_bounds-settle_meta-count c = let g = c.requires.0 in let few = g.noted.few in let p = c.args in let long = noted_long p.text.now g.notes p.n p.metas.now g.noted in omega (arith, few, long)

pub slice_bounds-settle_meta-end : goal.slice_bounds-settle_meta-end
slice_bounds-settle_meta-end c = let g = c.requires.0 in let few = g.noted.few in let p = c.args in let long = noted_long p.text.now g.notes p.n p.metas.now g.noted in let same = c.loop-i.invariant.1 in omega (arith, few, long, same)

pub settle_meta-so-requires : goal.settle_meta-so-requires
settle_meta-so-requires c = let g = c.requires.0 in
    let a = c.args in
    let l = c.loop-i in
    let w : (l.i * 16 + 16) - l.i * 16 ≡ 16 = omega arith in
    rw w (metas_here a.text.now g.notes a.strings.now a.n l.i l.metas l.strings l.so (limits a.text.now g.notes a.n a.metas.now g.noted) (l.invariant.2 ∙ c.requires.1) c.loop-i-test.true (l.invariant.3 g.notes g.noted))

pub loop-i-preserved : goal.loop-i-preserved
loop-i-preserved c = let a = c.args in
    let l = c.loop-i in
    let m = c.settle_meta-so in
    let w : (l.i * 16 + 16) - l.i * 16 ≡ 16 = omega arith in (
      omega arith,
      search (rules, l.invariant.1),
      search (rules, l.invariant.2),
      λ ns d. rw (m.ensures.0, m.ensures.1, m.ensures.2) (metas_more a.text.now ns a.strings.now a.n l.i l.metas l.strings l.so c.loop-i-test.true (l.invariant.3 ns d) _ w),
    )

pub shape_of-metas : goal.shape_of-metas
shape_of-metas c = c.loop-i.invariant.1

pub shape_of-strings : goal.shape_of-strings
shape_of-strings c = c.loop-i.invariant.2

pub returns : goal.returns
returns c = let a = c.args in
    let l = c.loop-i in
    λ ns d. metas_end a.text.now ns a.strings.now a.n l.i l.metas l.strings l.so c.loop-i-test.false (l.invariant.3 ns d)
