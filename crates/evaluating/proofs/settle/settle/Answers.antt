use Rattle.evaluating.proofs.Settling.{rows_sound, few_outputs, values_long, together, starts_begin, values_begin}
use Rattle.cells.specs.Held.{held_runs}
use Rattle.evaluating.proofs.settle.settle.Goals as goal

pub work_out-requires : goal.work_out-requires
work_out-requires c = let a = c.args in let p = c.requires in (p.1, rows_sound p.0 _ a.order.now a.count (starts_begin a.cells.now _ a.n c.start_rows.ensures) p.2, values_long a.n a.cells.now a.ins.now _ (values_begin a.cells.now a.ins.now _ a.n c.assign.ensures))

pub give_outputs-requires : goal.give_outputs-requires
give_outputs-requires c = let a = c.args in let p = c.requires in (p.0.cells_long, p.0.few, few_outputs p.0 _ a.answer.now p.4)

pub returns : goal.returns
returns c = let a = c.args in together a.cells.now (held_runs a.runs.now a.trits.now) a.n _ a.ins.now _ _ _ a.answer.now _ _ (starts_begin a.cells.now _ a.n c.start_rows.ensures) (values_begin a.cells.now a.ins.now _ a.n c.assign.ensures) c.work_out.ensures c.give_outputs.ensures
