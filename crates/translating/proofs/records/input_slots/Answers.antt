use lib.Seq.{sets}
use mathlib.Core.List.{List}
use Prim.Native.Nat.{ℕ}
use native.Mathlib.Omega.{arith}
use mathlib.Core.Path.{◌∙◌, ap, sym}
use Rattle.ground.specs.Lists.{up_from}
use Rattle.assigning.specs.Rows.{rows_total, input_in}
use Rattle.assigning.proofs.Laws.{assigned_none, assign_taken, assign_bits, assign_room, assigned_more, assigned_all}
use Rattle.translating.proofs.Listing.{part_up}
use Rattle.translating.proofs.records.input_slots.Goals as goal

pub loop-i-init : goal.loop-i-init
loop-i-init c = let a = c.args in assigned_none a.cells.now a.n (up_from 3 (rows_total input_in a.n a.cells.now)) a.slots.now

pub overflow_add-at : goal.overflow_add-at
overflow_add-at c = omega (arith, c.loop-i.invariant.taken, c.requires.3)

pub number_slots-requires : goal.number_slots-requires
number_slots-requires c = (omega (arith, assign_taken c.loop-i.invariant _ _ c.word_of-w.ensures.0 c.input_width-taken.ensures c.loop-i-test.true, c.requires.3), omega (arith, c.loop-i.invariant.long, assign_room c.loop-i.invariant _ _ c.word_of-w.ensures.0 c.input_width-taken.ensures c.loop-i-test.true, c.requires.2))

pub overflow_add-start : goal.overflow_add-start
overflow_add-start c = omega (arith, assign_bits c.loop-i.invariant _ _ c.word_of-w.ensures.0 c.input_width-taken.ensures c.loop-i-test.true, c.requires.2)

pub overflow_add-at-in-loop-i : goal.overflow_add-at-in-loop-i
overflow_add-at-in-loop-i c = omega (arith, assign_taken c.loop-i.invariant _ _ c.word_of-w.ensures.0 c.input_width-taken.ensures c.loop-i-test.true, c.requires.3)

pub loop-i-preserved : goal.loop-i-preserved
loop-i-preserved c = let a = c.args in let t = rows_total input_in a.n a.cells.now in assigned_more c.loop-i.invariant _ _ c.word_of-w.ensures.0 c.input_width-taken.ensures c.loop-i-test.true _ (c.number_slots.ensures ∙ ap (λ (x : List ℕ). sets c.loop-i.slots c.loop-i.start x) (sym (part_up 3 t c.loop-i.at c.input_width-taken.result (assign_taken c.loop-i.invariant _ _ c.word_of-w.ensures.0 c.input_width-taken.ensures c.loop-i-test.true))))

pub shape_of-slots : goal.shape_of-slots
shape_of-slots c = c.loop-i.invariant.long

pub returns : goal.returns
returns c = assigned_all c.loop-i.invariant c.loop-i-test.false
