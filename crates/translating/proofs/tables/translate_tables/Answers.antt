use Prim.Native.Nat.{◌+◌}
use Rattle.assigning.specs.Rows.{rows_total}
use Rattle.placing.specs.InTables.{order_in}
use Rattle.translating.specs.InTables.{row_sum, translation_in}
use mathlib.Core.Path.{refl, sym, ap, ◌∙◌}
use lib.ListN.{length}
use Rattle.ground.specs.Regions.{zeros}
use Rattle.ground.proofs.Regions.{length_zeros}
use Rattle.cells.specs.Held.{held_runs}
use Rattle.translating.proofs.Ways.{ring_way, given_way}
use Rattle.translating.proofs.Tabled.{order_sound, given_order}
use Rattle.translating.proofs.tables.translate_tables.Goals as goal

pub order_rows-placed-requires : goal.order_rows-placed-requires
unfolding zeros
order_rows-placed-requires c = (c.requires.0.inside, refl, c.requires.1)

pub returns-then-placed : goal.returns-then-placed
returns-then-placed c = let a = c.args in record { is = rw c.refused.ensures (ring_way _ (3 + rows_total (row_sum (held_runs a.runs.now a.trits.now)) a.n a.cells.now) (translation_in a.cells.now (held_runs a.runs.now a.trits.now) a.n (order_in a.cells.now a.runs.now a.n)) a.room.now a.work.now _ (ap length c.requires.1 ∙ length_zeros 8192) c.order_rows-placed.ensures.1 (sym c.order_rows-placed.ensures.0.ring ∙ c.if-placed.true)) }

pub translate_placed-requires : goal.translate_placed-requires
translate_placed-requires c = order_sound c.requires.0 c.order_rows-placed.ensures.0 (sym c.order_rows-placed.ensures.0.ring ∙ c.if-placed.false)

pub returns : goal.returns
returns c = let a = c.args in record { is = given_way _ (3 + rows_total (row_sum (held_runs a.runs.now a.trits.now)) a.n a.cells.now) (translation_in a.cells.now (held_runs a.runs.now a.trits.now) a.n (order_in a.cells.now a.runs.now a.n)) a.room.now a.work.now _ (ap length c.requires.1 ∙ length_zeros 8192) c.order_rows-placed.ensures.1 _ _ (sym c.order_rows-placed.ensures.0.ring ∙ c.if-placed.false) (given_order (held_runs a.runs.now a.trits.now) c.order_rows-placed.ensures.0 c.translate_placed.ensures) }
