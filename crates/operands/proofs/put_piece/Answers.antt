use Rattle.writing.proofs.Stands.{then}
use Rattle.operands.proofs.put_piece.Goals as goal

pub returns : goal.returns
returns c = let a = rw c.word_at-number.ensures at c.put_number-m.ensures in
    let w = rw (c.is_whole-whole.ensures, c.word_at.ensures) at c.put_offset-m.ensures in
    then c.put-m.ensures (then a (then w c.put_width.ensures))
