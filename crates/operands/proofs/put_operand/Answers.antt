use Rattle.writing.proofs.Stands.{then, same_text}
use Rattle.operands.proofs.Runs.{operand_one, operand_more}
use Rattle.operands.proofs.put_operand.Goals as goal

pub returns-then-from-end : goal.returns-then-from-end
returns-then-from-end c = same_text c.put_runs.ensures (operand_one _ _ _ _ _ _ _ c.end_of-end.ensures c.if-from-end.true)

pub returns : goal.returns
returns c = same_text (then c.put-m.ensures (then c.put_runs-m.ensures c.put.ensures)) (operand_more _ _ _ _ _ _ _ c.end_of-end.ensures c.if-from-end.false)
