use Rattle.asking.specs.Namesakes.{cell_namesake}
use Rattle.asking.proofs.RowLaws.{row_first, row_word}
use borrow.Author.Tests.{eq-eqb, ne_eqb}
use Rattle.taken.proofs.cell_named.Goals as goal

pub is_namesake-requires : goal.is_namesake-requires
is_namesake-requires c = let p = c in (p.requires.1, rw (c.word_at-at.ensures, c.word_at-long.ensures) (rw (row_word, row_word) at p.requires.2))

pub returns-then-cells-row : goal.returns-then-cells-row
unfolding cell_namesake
returns-then-cells-row c = rw (row_first, eq-eqb _ _ c.if-cells-row.true, row_word, row_word, ← c.word_at-at.ensures, ← c.word_at-long.ensures) c.is_namesake.ensures

pub returns : goal.returns
unfolding cell_namesake
returns c = rw (row_first, ne_eqb _ _ c.if-cells-row.false)
