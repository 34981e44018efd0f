use Rattle.cells.specs.Values.{kind_value}
use lib.ListN.{drop, get_or}
use Prim.Native.Nat.{◌*◌}
use Rattle.valuing.proofs.Laws.{gathered, gathered_room, revalued, room_long}
use Rattle.valuing.proofs.work_third.Goals as goal

pub slice_bounds-put_row-end : goal.slice_bounds-put_row-end
slice_bounds-put_row-end c = let a = c.args in gathered_room (Rattle.cells.specs.Held.held_bits a.starts.now a.values.now) (Rattle.cells.specs.Held.held_runs a.runs.now a.trits.now) _ _ _ _ c.third_run-from.ensures c.word_in-size.ensures.0 _ _ _ room_long c.gather-n.ensures c.requires.0.narrow.c

pub returns : goal.returns
returns c = let a = c.args in revalued (λ z. kind_value (get_or (drop (a.row * 9) a.cells.now) 0 0) a.a.now a.b.now z) (gathered (Rattle.cells.specs.Held.held_bits a.starts.now a.values.now) (Rattle.cells.specs.Held.held_runs a.runs.now a.trits.now) _ _ _ _ c.third_run-from.ensures c.word_in-size.ensures.0 _ _ _ room_long c.gather-n.ensures c.requires.0.narrow.c) c.put_row.ensures
