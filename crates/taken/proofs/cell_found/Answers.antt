use Prim.Native.Nat.{◌-◌}
use mathlib.Core.Path.{sym, ◌∙◌}
use native.Mathlib.Omega.{arith}
use Rattle.asking.specs.Namesakes.{cell_namesake}
use Rattle.asking.proofs.RowLaws.{rows_start, row_hit, row_miss, rows_end}
use Rattle.asking.proofs.NameLaws.{cell_row, cell_found, cells_room}
use Rattle.taken.proofs.cell_found.Goals as goal

pub next_of_kind-i-requires : goal.next_of_kind-i-requires
next_of_kind-i-requires c = (omega arith, cells_room c.requires.0)

pub loop-i-init : goal.loop-i-init
loop-i-init c =
    let a = c.args in
    let r = c.next_of_kind-i.ensures in
    (r.1, r.2.finds a.text.now a.from a.size ∙ rows_start 9 (cell_namesake a.text.now a.kind a.from a.size) a.n a.cells.now)

pub cell_named-requires : goal.cell_named-requires
cell_named-requires c = let p = c in let r = cell_row p.requires.0 c.loop-i.i c.loop-i-test.true in (r.0, p.requires.1, r.1)

pub returns-then-cell_named : goal.returns-then-cell_named
returns-then-cell_named c = let p = c in let q = p in let a = q.args in λ ns r l s. row_hit 9 (cell_namesake a.text.now a.kind a.from a.size) a.n p.loop-i.i a.cells.now c.loop-i-test.true (sym c.if-cell_named.true ∙ c.cell_named.ensures) ∙ p.loop-i.invariant.1 ∙ cell_found a.text.now a.cells.now a.n a.kind a.from a.size q.requires.1 ns r l s

pub next_of_kind-i-requires-in-loop-i : goal.next_of_kind-i-requires-in-loop-i
next_of_kind-i-requires-in-loop-i c = (omega arith, cells_room c.requires.0)

pub loop-i-smaller : goal.loop-i-smaller
loop-i-smaller c = omega (arith, c.next_of_kind-i-in-loop-i.ensures.0, c.loop-i-test.true)

pub loop-i-preserved : goal.loop-i-preserved
loop-i-preserved c =
    let p = c in
    let a = p.args in
    let r = c.next_of_kind-i-in-loop-i.ensures in
    let m = row_miss 9 (cell_namesake a.text.now a.kind a.from a.size) a.n p.loop-i.i a.cells.now c.loop-i-test.true (sym c.if-cell_named.false ∙ c.cell_named.ensures) in
    (r.1, r.2.finds a.text.now a.from a.size ∙ m ∙ p.loop-i.invariant.1)

pub returns : goal.returns
returns c = let p = c in let q = p in let a = q.args in λ ns r l s. rows_end 9 (cell_namesake a.text.now a.kind a.from a.size) a.n p.loop-i.i a.cells.now c.loop-i-test.false ∙ p.loop-i.invariant.1 ∙ cell_found a.text.now a.cells.now a.n a.kind a.from a.size q.requires.1 ns r l s
