use mathlib.Core.Path.{sym, ◌∙◌}
use Rattle.saying.specs.Notes.{cells_said}
use Rattle.wiring.proofs.CellTwice.{twice_number, twice_name, twice_nothing}
use Rattle.wiring.proofs.is_twice.Goals as goal

pub returns-then-number_row-ge1 : goal.returns-then-number_row-ge1
returns-then-number_row-ge1 c = let a = c.args in λ numbers ns m small rows count sp.
    twice_number a.text.now a.w numbers a.index (cells_said ns) _ (c.number_row.ensures numbers m small) c.if-number_row-ge1.true

pub cell_taken-requires : goal.cell_taken-requires
cell_taken-requires c = let s = c in rw c.cells_of.ensures (s.requires.2, (s.requires.3 (sym c.has_name.ensures ∙ c.if-has_name.true)).size, s.requires.4)

pub returns-then-has_name : goal.returns-then-has_name
returns-then-has_name c = let a = c.args in λ numbers ns m small rows count sp.
    twice_name a.text.now a.w numbers a.index (cells_said ns) _ (c.number_row.ensures numbers m small) c.if-number_row-ge1.false _ (sym c.has_name.ensures ∙ c.if-has_name.true) (let e = c.cell_taken.ensures in (rw c.cells_of.ensures at e) ns rows count sp)

pub returns : goal.returns
returns c = let a = c.args in λ numbers ns m small rows count sp.
    twice_nothing a.text.now a.w numbers a.index (cells_said ns) _ (c.number_row.ensures numbers m small) c.if-number_row-ge1.false (sym c.has_name.ensures ∙ c.if-has_name.false)
