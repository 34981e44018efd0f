use native.Mathlib.Omega.{arith}
use Rattle.signs.proofs.Laws.{in_text}
use Rattle.signs.specs.Pieces.{suffix_at}
use Rattle.ground.proofs.Tests.{tests}
use Rattle.numerals.proofs.suffix_at.Goals as goal

pub overflow_add-from : goal.overflow_add-from
overflow_add-from c = let a = c.args in
    omega (arith, in_text a.text.now a.at (omega (arith, c.byte_at-b.ensures)))

pub returns-then-b-mark : goal.returns-then-b-mark
unfolding suffix_at
returns-then-b-mark c = search (tests, ← c.byte_at-b.ensures, ← c.numeral_at-d.ensures)

pub returns : goal.returns
unfolding suffix_at
returns c = search (tests, ← c.byte_at-b.ensures)
