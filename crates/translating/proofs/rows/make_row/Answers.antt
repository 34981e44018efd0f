use native.Mathlib.Omega.{arith}
use mathlib.Core.Path.{refl, sym, ap, subst}
use Rattle.cells.specs.Held.{held_runs, held_bits}
use Rattle.cells.specs.Records.{Made}
use Rattle.translating.specs.Sound.{Roomy}
use Rattle.translating.proofs.Sums.{first_at, second_at, third_at, operand_long, operand_is, row_gathered, room_as, slots_as, listed_as}
use Rattle.translating.proofs.rows.make_row.Goals as goal

pub overflow_mul-at : goal.overflow_mul-at
overflow_mul-at c = omega arith

pub slice_bounds-make_cell-end : goal.slice_bounds-make_cell-end
slice_bounds-make_cell-end c =
    let a = c.args in
    let o = c.requires.0 in
    let p5 = c.word_of-first.ensures.0 in
    let p6 = c.word_of-one.ensures.0 in
    let ha = first_at (held_runs a.runs.now a.trits.now) a.cells.now a.row _ _ p5 p6 o.narrow.a in
    operand_long (held_bits a.starts.now a.slots.now) (held_runs a.runs.now a.trits.now) _ _ c.gather_slots-x.ensures c.gather_slots-x.auto.out ha

pub slice_bounds-make_cell-end-2 : goal.slice_bounds-make_cell-end-2
slice_bounds-make_cell-end-2 c =
    let a = c.args in
    let o = c.requires.0 in
    let p5 = c.word_of-first.ensures.0 in
    let p6 = c.word_of-one.ensures.0 in
    let p7 = c.word_of-two.ensures.0 in
    let hb = second_at (held_runs a.runs.now a.trits.now) a.cells.now a.row _ _ _ p5 p6 p7 o.narrow.b in
    operand_long (held_bits a.starts.now a.slots.now) (held_runs a.runs.now a.trits.now) _ _ c.gather_slots-y.ensures c.gather_slots-y.auto.out hb

pub slice_bounds-make_cell-end-3 : goal.slice_bounds-make_cell-end-3
slice_bounds-make_cell-end-3 c =
    let a = c.args in
    let o = c.requires.0 in
    let p5 = c.word_of-first.ensures.0 in
    let p6 = c.word_of-one.ensures.0 in
    let p7 = c.word_of-two.ensures.0 in
    let p8 = c.word_of-three.ensures.0 in
    let hc = third_at (held_runs a.runs.now a.trits.now) a.cells.now a.row _ _ _ _ p5 p6 p7 p8 o.narrow.c in
    operand_long (held_bits a.starts.now a.slots.now) (held_runs a.runs.now a.trits.now) _ _ c.gather_slots-z.ensures c.gather_slots-z.auto.out hc

pub make_cell-requires : goal.make_cell-requires
make_cell-requires c =
    let a = c.args in
    let o = c.requires.0 in
    let p5 = c.word_of-first.ensures.0 in
    let p6 = c.word_of-one.ensures.0 in
    let p7 = c.word_of-two.ensures.0 in
    let p8 = c.word_of-three.ensures.0 in
    let ha = first_at (held_runs a.runs.now a.trits.now) a.cells.now a.row _ _ p5 p6 o.narrow.a in
    let hb = second_at (held_runs a.runs.now a.trits.now) a.cells.now a.row _ _ _ p5 p6 p7 o.narrow.b in
    let hc = third_at (held_runs a.runs.now a.trits.now) a.cells.now a.row _ _ _ _ p5 p6 p7 p8 o.narrow.c in
    let ea = operand_is (held_bits a.starts.now a.slots.now) (held_runs a.runs.now a.trits.now) _ _ c.gather_slots-x.ensures c.gather_slots-x.auto.out ha in
    let eb = operand_is (held_bits a.starts.now a.slots.now) (held_runs a.runs.now a.trits.now) _ _ c.gather_slots-y.ensures c.gather_slots-y.auto.out hb in
    let ec = operand_is (held_bits a.starts.now a.slots.now) (held_runs a.runs.now a.trits.now) _ _ c.gather_slots-z.ensures c.gather_slots-z.auto.out hc in
    let e = row_gathered (held_runs a.runs.now a.trits.now) a.cells.now a.row (held_bits a.starts.now a.slots.now) a.k _ _ _ _ _ _ _ _ refl p5 p6 p7 p8 ea eb ec in
    (subst (λ (m : Made). Roomy a.list.now a.k m.records) (sym e) c.requires.1, room_as e c.word_of-start.ensures.0 c.requires.2 (o.room (held_bits a.starts.now a.slots.now) a.k))

pub returns : goal.returns
returns c =
    let a = c.args in
    let o = c.requires.0 in
    let p5 = c.word_of-first.ensures.0 in
    let p6 = c.word_of-one.ensures.0 in
    let p7 = c.word_of-two.ensures.0 in
    let p8 = c.word_of-three.ensures.0 in
    let ha = first_at (held_runs a.runs.now a.trits.now) a.cells.now a.row _ _ p5 p6 o.narrow.a in
    let hb = second_at (held_runs a.runs.now a.trits.now) a.cells.now a.row _ _ _ p5 p6 p7 o.narrow.b in
    let hc = third_at (held_runs a.runs.now a.trits.now) a.cells.now a.row _ _ _ _ p5 p6 p7 p8 o.narrow.c in
    let ea = operand_is (held_bits a.starts.now a.slots.now) (held_runs a.runs.now a.trits.now) _ _ c.gather_slots-x.ensures c.gather_slots-x.auto.out ha in
    let eb = operand_is (held_bits a.starts.now a.slots.now) (held_runs a.runs.now a.trits.now) _ _ c.gather_slots-y.ensures c.gather_slots-y.auto.out hb in
    let ec = operand_is (held_bits a.starts.now a.slots.now) (held_runs a.runs.now a.trits.now) _ _ c.gather_slots-z.ensures c.gather_slots-z.auto.out hc in
    let e = row_gathered (held_runs a.runs.now a.trits.now) a.cells.now a.row (held_bits a.starts.now a.slots.now) a.k _ _ _ _ _ _ _ _ refl p5 p6 p7 p8 ea eb ec in
    (listed_as (ap (λ (m : Made). m.records) e) c.make_cell.ensures.0, slots_as a.slots.now c.make_cell.ensures.1 e c.word_of-start.ensures.0)
