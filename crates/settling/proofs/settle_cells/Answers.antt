use Rattle.settling.proofs.CellRows.{cells_start, cells_here, cells_more, cells_end, noted_long}
use native.Mathlib.Omega.{arith}
use mathlib.Core.Path.{◌≡◌, refl, ◌∙◌}
use Prim.Native.Nat.{◌+◌, ◌-◌, ◌*◌}
use borrow.Author.Rules.{rules}
use Rattle.settling.proofs.settle_cells.Goals as goal

pub loop-i-init : goal.loop-i-init
loop-i-init c = let a = c.args in
    (omega arith, refl, refl, λ ns d. cells_start a.text.now ns a.first a.n a.cells.now a.strings.now _ refl refl d)

pub overflow_mul-k : goal.overflow_mul-k
overflow_mul-k c = let g = c.requires.0 in let few = g.noted.few in let p = c.args in let long = noted_long p.text.now g.notes p.n p.first p.cells.now g.noted in omega (arith, few)

pub overflow_add-k : goal.overflow_add-k
overflow_add-k c = let g = c.requires.0 in let few = g.noted.few in let p = c.args in let long = noted_long p.text.now g.notes p.n p.first p.cells.now g.noted in omega (arith, few)

pub offset_bounds-cells-k : goal.offset_bounds-cells-k
offset_bounds-cells-k c = let g = c.requires.0 in let few = g.noted.few in let p = c.args in let long = noted_long p.text.now g.notes p.n p.first p.cells.now g.noted in omega (arith, few, long)

pub slice_bounds-settle_cell-count : goal.slice_bounds-settle_cell-count
slice_bounds-settle_cell-count c = let g = c.requires.0 in let few = g.noted.few in let p = c.args in let long = noted_long p.text.now g.notes p.n p.first p.cells.now g.noted in omega (arith, few, long)

pub slice_bounds-settle_cell-end : goal.slice_bounds-settle_cell-end
slice_bounds-settle_cell-end c = let g = c.requires.0 in let few = g.noted.few in let p = c.args in let long = noted_long p.text.now g.notes p.n p.first p.cells.now g.noted in let same = c.loop-i.invariant.1 in omega (arith, few, long, same)

pub settle_cell-so-requires : goal.settle_cell-so-requires
settle_cell-so-requires c = let g = c.requires.0 in
    let a = c.args in
    let l = c.loop-i in
    let w : (l.i * 9 + 9) - l.i * 9 ≡ 9 = omega arith in
    rw w (cells_here a.text.now g.notes a.first a.strings.now a.n l.i l.cells l.strings l.so c.loop-i-test.true g.noted.strings g.noted.runs (l.invariant.2 ∙ c.requires.1) (l.invariant.3 g.notes g.noted))

pub loop-i-preserved : goal.loop-i-preserved
loop-i-preserved c = let a = c.args in
    let l = c.loop-i in
    let m = c.settle_cell-so in
    let w : (l.i * 9 + 9) - l.i * 9 ≡ 9 = omega arith in (
      omega arith,
      search (rules, l.invariant.1),
      search (rules, l.invariant.2),
      λ ns d. rw (m.ensures.0, m.ensures.1, m.ensures.2) (cells_more a.text.now ns a.first a.strings.now a.n l.i l.cells l.strings l.so c.loop-i-test.true (l.invariant.3 ns d) _ w),
    )

pub shape_of-cells : goal.shape_of-cells
shape_of-cells c = c.loop-i.invariant.1

pub shape_of-strings : goal.shape_of-strings
shape_of-strings c = c.loop-i.invariant.2

pub returns : goal.returns
returns c = let a = c.args in
    let l = c.loop-i in
    λ ns d. cells_end a.text.now ns a.first a.strings.now a.n l.i l.cells l.strings l.so c.loop-i-test.false (l.invariant.3 ns d)
