use Rattle.valuing.proofs.Laws.{gathered, gathered_room, revalued, room_long, valued_row}
use Rattle.cells.specs.Operands.{bits_from}
use Rattle.cells.specs.Values.{kind_value}
use lib.ListN.{drop, get_or}
use Prim.Native.Nat.{◌*◌}
use Rattle.valuing.proofs.work_row.Goals as goal

pub slice_bounds-work_second-end : goal.slice_bounds-work_second-end
slice_bounds-work_second-end c = let a = c.args in gathered_room (Rattle.cells.specs.Held.held_bits a.starts.now a.values.now) (Rattle.cells.specs.Held.held_runs a.runs.now a.trits.now) _ _ _ _ c.word_in-from.ensures.0 c.word_in-size.ensures.0 _ _ _ room_long c.gather-n.ensures c.requires.0.narrow.a

pub returns : goal.returns
returns c = let a = c.args in valued_row a.cells.now (Rattle.cells.specs.Held.held_runs a.runs.now a.trits.now) a.starts.now a.values.now _ a.row (revalued (λ z. kind_value (get_or (drop (a.row * 9) a.cells.now) 0 0) z (bits_from (Rattle.cells.specs.Held.held_bits a.starts.now a.values.now) (Rattle.valuing.specs.Row.cell_of (Rattle.cells.specs.Held.held_runs a.runs.now a.trits.now) (drop (a.row * 9) a.cells.now)).b) (bits_from (Rattle.cells.specs.Held.held_bits a.starts.now a.values.now) (Rattle.valuing.specs.Row.cell_of (Rattle.cells.specs.Held.held_runs a.runs.now a.trits.now) (drop (a.row * 9) a.cells.now)).c)) (gathered (Rattle.cells.specs.Held.held_bits a.starts.now a.values.now) (Rattle.cells.specs.Held.held_runs a.runs.now a.trits.now) _ _ _ _ c.word_in-from.ensures.0 c.word_in-size.ensures.0 _ _ _ room_long c.gather-n.ensures c.requires.0.narrow.a) c.work_second.ensures)
