use Rattle.finishing.proofs.Finishing.{few_rows, metas_given, ios_given, cells_given, finished}
use native.Mathlib.Omega.{arith}
use mathlib.Core.Path.{◌∙◌}
use Prim.Native.Nat.{◌-◌}
use Rattle.finishing.proofs.finish.finish.Goals as goal

pub row_all_runs-requires : goal.row_all_runs-requires
row_all_runs-requires c = let p = c in
    let a = p.args in
    let g = p.requires.0 in
    let d = g.ready.noted in
    (d.long_rows, omega (arith, d.long_work), (few_rows a.text.now g.so a.n a.rows.now g.bits a.work.now d).3)

pub settle_all_metas-first-requires : goal.settle_all_metas-first-requires
settle_all_metas-first-requires c = let p = c in
    let a = p.args in
    let g = p.requires.0 in
    let d = g.ready.noted in
    let k1 = c.row_all_runs.ensures.0 in
    (k1.long ∙ d.long_rows, record { notes = d.metas.notes; noted = metas_given a.text.now g.so a.n a.rows.now g.bits a.work.now d _ k1 }, p.requires.1)

pub settle_all_ios-next-requires : goal.settle_all_ios-next-requires
settle_all_ios-next-requires c = let p = c in
    let a = p.args in
    let g = p.requires.0 in
    let d = g.ready.noted in
    let k1 = c.row_all_runs.ensures.0 in
    let m = c.settle_all_metas-first in
    (m.ensures.0.long ∙ k1.long ∙ d.long_rows, record { notes = d.ios.notes; noted = ios_given a.text.now g.so a.n a.rows.now g.bits a.work.now d _ k1 _ _ _ _ m.ensures.0 m.ensures.1 }, omega (arith, m.auto, p.requires.1))

pub settle_all_cells-requires : goal.settle_all_cells-requires
settle_all_cells-requires c = let p = c in
    let a = p.args in
    let g = p.requires.0 in
    let d = g.ready.noted in
    let k1 = c.row_all_runs.ensures.0 in
    let m = c.settle_all_metas-first in
    let i = c.settle_all_ios-next in
    (i.ensures.0.long ∙ m.ensures.0.long ∙ k1.long ∙ d.long_rows, record { notes = d.cells.notes; noted = cells_given a.text.now g.so a.n a.rows.now g.bits a.work.now d _ k1 _ _ _ _ m.ensures.0 m.ensures.1 _ _ _ i.ensures.0 i.ensures.1 }, omega (arith, i.auto, m.auto, p.requires.1))

pub put_counts-requires : goal.put_counts-requires
put_counts-requires c = let p = c in
    let a = p.args in
    let g = p.requires.0 in
    let d = g.ready.noted in
    let k1 = c.row_all_runs.ensures.0 in
    let m = c.settle_all_metas-first in
    let i = c.settle_all_ios-next in
    let e = c.settle_all_cells in
    let long = e.ensures.0.long ∙ i.ensures.0.long ∙ m.ensures.0.long ∙ k1.long ∙ d.long_rows in
    let few = few_rows a.text.now g.so a.n a.rows.now g.bits a.work.now d in
    (omega (arith, long), few.0, few.1, few.2)

pub returns : goal.returns
returns c = let a = c.args in
    let r = c.row_all_runs in
    let m = c.settle_all_metas-first in
    let i = c.settle_all_ios-next in
    let e = c.settle_all_cells in
    λ so bits y z. finished a.text.now so a.n a.rows.now bits a.work.now y.noted _ r.ensures.0 _ _ _ _ m.ensures.0 m.ensures.1 _ _ _ i.ensures.0 i.ensures.1 _ _ _ e.ensures.0 e.ensures.1 y.declared r.ensures.1 z _ c.put_counts.ensures
