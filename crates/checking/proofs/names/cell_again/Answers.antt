use Prim.Native.Nat.{◌*◌}
use native.Mathlib.Omega.{arith}
use mathlib.Core.Path.{refl, sym, ◌∙◌}
use borrow.Author.Tests.{eq-eqb, ne_eqb}
use Rattle.checking.proofs.Laws.{name_part, row_word, row_head}
use Rattle.checking.proofs.Marking.{cell_new, cell_seen, cell_apart}
use Rattle.checking.proofs.names.cell_again.Goals as goal

pub slice_bounds-is_new_name-end : goal.slice_bounds-is_new_name-end
slice_bounds-is_new_name-end c = let a = c.args in let u = row_word (a.i * 9) 2 _ a.cells.now c.word_of-start.ensures.0 in let v = row_word (a.i * 9) 3 _ a.cells.now c.word_of.ensures.0 in omega (arith, u, v, c.requires.1.each a.i c.requires.0)

pub returns-then-is_new_name : goal.returns-then-is_new_name
returns-then-is_new_name c = let a = c.args in let u = row_word (a.i * 9) 2 _ a.cells.now c.word_of-start.ensures.0 in let v = row_word (a.i * 9) 3 _ a.cells.now c.word_of.ensures.0 in cell_new a.strings.now a.kind a.n a.i a.cells.now a.seen.now c.requires.0 c.requires.2 (eq-eqb _ _ (sym (row_head (a.i * 9) _ a.cells.now refl) ∙ c.if-cells-row.true)) _ _ (name_part a.strings.now _ _ _ _ u v) (sym c.is_new_name.ensures.0 ∙ c.if-is_new_name.true) c.is_new_name.ensures.1

pub slice_bounds-cell_taken-end : goal.slice_bounds-cell_taken-end
slice_bounds-cell_taken-end c = let a = c.args in let u = row_word (a.i * 9) 2 _ a.cells.now c.word_of-start.ensures.0 in let v = row_word (a.i * 9) 3 _ a.cells.now c.word_of.ensures.0 in omega (arith, u, v, c.requires.1.each a.i c.requires.0)

pub returns-then-cells-row : goal.returns-then-cells-row
returns-then-cells-row c = let a = c.args in let u = row_word (a.i * 9) 2 _ a.cells.now c.word_of-start.ensures.0 in let v = row_word (a.i * 9) 3 _ a.cells.now c.word_of.ensures.0 in cell_seen a.strings.now a.kind a.n a.i a.cells.now a.seen.now c.requires.0 c.requires.2 (eq-eqb _ _ (sym (row_head (a.i * 9) _ a.cells.now refl) ∙ c.if-cells-row.true)) _ _ _ (name_part a.strings.now _ _ _ _ u v) c.cell_taken.ensures c.is_new_name.ensures.1

pub returns : goal.returns
returns c = let a = c.args in cell_apart a.strings.now a.kind a.n a.i a.cells.now a.seen.now c.requires.0 c.requires.2 (ne_eqb _ _ (λ e. c.if-cells-row.false (row_head (a.i * 9) _ a.cells.now refl ∙ e)))
