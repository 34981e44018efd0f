use Rattle.asking.specs.Namesakes.{io_namesake}
use Rattle.asking.proofs.RowLaws.{row_first, row_word}
use Rattle.taken.proofs.io_named.Goals as goal

pub is_namesake-requires : goal.is_namesake-requires
is_namesake-requires c = let p = c in (p.requires.1, rw (c.word_at-at.ensures, c.word_at-long.ensures) (rw (row_first, row_word) at p.requires.2))

pub returns : goal.returns
unfolding io_namesake
returns c = rw (row_first, row_word, ← c.word_at-at.ensures, ← c.word_at-long.ensures) c.is_namesake.ensures
