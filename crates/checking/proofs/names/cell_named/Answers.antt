use Rattle.checking.proofs.Laws.{name_part, row_word, row_head}
use borrow.Author.Tests.{eq-eqb, ne_eqb}
use native.Mathlib.Omega.{arith}
use mathlib.Core.Path.{refl}
use Prim.Native.Nat.{◌*◌}
use Rattle.checking.proofs.names.cell_named.Goals as goal

pub slice_bounds-same_bytes-end : goal.slice_bounds-same_bytes-end
slice_bounds-same_bytes-end c = let a = c.args in let u = row_word (a.i * 9) 2 _ a.cells.now c.word_of-start.ensures.0 in let v = row_word (a.i * 9) 3 _ a.cells.now c.word_of.ensures.0 in omega (arith, u, v, c.requires.1)

pub returns-then-cells-row : goal.returns-then-cells-row
returns-then-cells-row c = let a = c.args in let u = row_word (a.i * 9) 2 _ a.cells.now c.word_of-start.ensures.0 in let v = row_word (a.i * 9) 3 _ a.cells.now c.word_of.ensures.0 in rw (← row_head (a.i * 9) _ a.cells.now refl, eq-eqb _ _ c.if-cells-row.true, ← name_part a.strings.now _ _ _ _ u v) c.same_bytes.ensures

pub returns : goal.returns
returns c = let a = c.args in rw (← row_head (a.i * 9) _ a.cells.now refl, ne_eqb _ _ c.if-cells-row.false)
