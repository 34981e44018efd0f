use mathlib.Core.Path.{sym, ◌∙◌}
use Rattle.lexis.specs.Tokens.{cell_of}
use Rattle.lexis.proofs.Cells.{good_cell}
use Rattle.lexis.proofs.tokens.cell.Goals as goal

pub returns-then-good_part-3 : goal.returns-then-good_part-3
unfolding cell_of
returns-then-good_part-3 c = let third = c in
    let second = third in
    let first = second in
    let index = first in
    let a = index.args in
    rw (← index.numeral_at-i.ensures, ← first.offset_at-o.ensures, ← second.width_at-w.ensures, ← third.count_at-c.ensures)
    (c.cell_took.ensures
    ∙ good_cell a.text.now a.k index.numeral_at-i.result first.offset_at-o.result second.width_at-w.result third.count_at-c.result
    (sym first.good_index.ensures ∙ first.if-good_index.true)
    (sym second.good_part.ensures ∙ second.if-good_part.true)
    (sym third.good_part-then-good_part.ensures ∙ third.if-good_part-2.true)
    (sym c.good_part-then-good_part-2.ensures ∙ c.if-good_part-3.true))

pub returns : goal.returns
returns c = c.cell_any.ensures
