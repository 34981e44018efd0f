use Rattle.translating.specs.Sound.{Roomy}
use Rattle.translating.proofs.Listing.{rows_more, left_none, left_room, rows_on, rows_end, rows_begin}
use Rattle.placing.specs.Placing.{output_from}
use Rattle.valuing.specs.Row.{cell_of}
use Rattle.translating.proofs.Counting.{length_outputs}
use native.Mathlib.Omega.{arith}
use Prim.Native.Nat.{◌+◌, ◌*◌}
use lib.ListN.{drop}
use Rattle.cells.specs.Held.{held_runs, held_bits}
use Rattle.translating.specs.Translation.{output_records}
use Rattle.translating.proofs.records.output_rows.Goals as goal

pub loop-i-init : goal.loop-i-init
loop-i-init c = let a = c.args in (omega arith, rows_begin a.list.now a.k a.cells.now (held_runs a.runs.now a.trits.now) (held_bits a.starts.now a.slots.now) a.n)

pub overflow_add-k : goal.overflow_add-k
overflow_add-k c = omega (arith, c.loop-i.invariant.1.count, c.requires.3.slots)

pub output_row-j-requires : goal.output_row-j-requires
output_row-j-requires c = let a = c.args in let l = c.loop-i in let p = c.requires in (p.0, omega (arith, c.loop-i-test.true, p.1), p.2 l.i c.loop-i-test.true, omega (arith, l.invariant.1.count, p.3.slots), left_room l.invariant.1 _ (rows_on a.cells.now (held_runs a.runs.now a.trits.now) (held_bits a.starts.now a.slots.now) a.n l.i l.j c.loop-i-test.true) p.3)

pub overflow_add-j : goal.overflow_add-j
overflow_add-j c = let a = c.args in let l = c.loop-i in let r : Roomy l.list (a.k + l.j) (output_records (output_from (held_bits a.starts.now a.slots.now) (cell_of (held_runs a.runs.now a.trits.now) (drop (l.i * 9) a.cells.now))) l.j) = left_room l.invariant.1 _ (rows_on a.cells.now (held_runs a.runs.now a.trits.now) (held_bits a.starts.now a.slots.now) a.n l.i l.j c.loop-i-test.true) c.requires.3 in omega (arith, c.output_row-j.ensures.0, r.slots, length_outputs (output_from (held_bits a.starts.now a.slots.now) (cell_of (held_runs a.runs.now a.trits.now) (drop (l.i * 9) a.cells.now))) l.j)

pub loop-i-preserved : goal.loop-i-preserved
loop-i-preserved c = let a = c.args in let l = c.loop-i in (omega arith, rows_more a.cells.now (held_runs a.runs.now a.trits.now) (held_bits a.starts.now a.slots.now) a.n l.i l.j l.invariant.1 c.loop-i-test.true c.output_row-j.ensures.0 c.output_row-j.ensures.1)

pub shape_of-list : goal.shape_of-list
shape_of-list c = c.loop-i.invariant.1.long

pub returns : goal.returns
returns c = let a = c.args in let l = c.loop-i in left_none l.invariant.1 (rows_end a.cells.now (held_runs a.runs.now a.trits.now) (held_bits a.starts.now a.slots.now) a.n l.i l.j c.loop-i-test.false)
