use native.Mathlib.Omega.{arith}
use mathlib.Core.Path.{sym, subst}
use mathlib.Core.List.{List}
use Prim.Native.Nat.{ℕ}
use lib.ListN.{take, get_or}
use Rattle.ground.specs.Regions.{zeros}
use Rattle.cells.specs.Held.{held_runs}
use Rattle.translating.specs.Sound.{RowSound}
use Rattle.translating.proofs.Putting.{front_room, middle_room, last_room, all_put}
use Rattle.translating.proofs.tables.put_list.Goals as goal

pub put_front-requires : goal.put_front-requires
unfolding zeros
put_front-requires c = let a = c.args in let o = c.requires.0 in let r = c.requires.1 in let L = take a.count a.order.now in (omega (arith, o.table.inputs, c.count_inputs-inputs.ensures), front_room a.cells.now (held_runs a.runs.now a.trits.now) a.n L _ _ _ c.start_rows.ensures c.input_slots.ensures c.count_inputs-inputs.ensures r)

pub make_rows-k-requires : goal.make_rows-k-requires
unfolding zeros
make_rows-k-requires c = let a = c.args in let o = c.requires.0 in let r = c.requires.1 in let L = take a.count a.order.now in (o.fits, λ i h. subst (λ (s : List ℕ). RowSound a.cells.now (held_runs a.runs.now a.trits.now) s (get_or a.order.now i 0)) (sym c.start_rows.ensures) (o.rows i h), middle_room a.cells.now (held_runs a.runs.now a.trits.now) a.n L _ _ _ c.start_rows.ensures c.input_slots.ensures c.count_inputs-inputs.ensures r c.put_front.ensures, omega arith)

pub output_rows-requires : goal.output_rows-requires
unfolding zeros
output_rows-requires c = let a = c.args in let o = c.requires.0 in let r = c.requires.1 in let L = take a.count a.order.now in (o.table.cells_long, o.table.few, λ row h. (o.table.narrow row h).a, last_room a.cells.now (held_runs a.runs.now a.trits.now) a.n L _ _ _ c.start_rows.ensures c.input_slots.ensures c.count_inputs-inputs.ensures r c.put_front.ensures c.make_rows-k.ensures.0 _ c.make_rows-k.ensures.1)

pub returns : goal.returns
unfolding zeros
returns c = let a = c.args in let o = c.requires.0 in let r = c.requires.1 in let L = take a.count a.order.now in all_put a.cells.now (held_runs a.runs.now a.trits.now) a.n L _ _ _ c.start_rows.ensures c.input_slots.ensures c.count_inputs-inputs.ensures r c.put_front.ensures c.make_rows-k.ensures.0 _ c.make_rows-k.ensures.1 c.output_rows.ensures
