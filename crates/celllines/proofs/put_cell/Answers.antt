use Rattle.writing.proofs.Stands.{then, same_text}
use Rattle.celllines.specs.CellLines.{cell_line}
use Rattle.celllines.proofs.put_cell.Goals as goal

pub returns : goal.returns
unfolding cell_line
returns c = same_text (then c.put_declared-m.ensures (then c.put_name-m.ensures (then c.put_operands-m.ensures (then c.put_option-m.ensures c.put.ensures))))
    (λ k. rw (c.has_name.ensures, c.operands_of.ensures, c.kind_of-kind.ensures.0))
