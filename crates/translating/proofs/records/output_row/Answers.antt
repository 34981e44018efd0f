use Prim.Native.Nat.{◌*◌, ℕ}
use lib.ListN.{drop, length}
use Rattle.placing.specs.Placing.{output_from}
use Rattle.valuing.specs.Row.{cell_of}
use mathlib.Core.Path.{sym, ap, ◌∙◌}
use mathlib.Core.List.{List}
use Rattle.cells.specs.Held.{held_runs, held_bits}
use Rattle.recording.proofs.Left.{puts_nothing}
use Rattle.valuing.proofs.Laws.{row_word, no_output}
use Rattle.translating.specs.Translation.{output_records}
use Rattle.translating.proofs.Counting.{length_outputs}
use Rattle.translating.proofs.Sums.{first_at, operand_count, operand_long, operand_is, output_bits, puts_as}
use native.Mathlib.Omega.{arith}
use Rattle.translating.proofs.records.output_row.Goals as goal

pub slice_bounds-put_outputs-end : goal.slice_bounds-put_outputs-end
slice_bounds-put_outputs-end c = let a = c.args in let h = first_at (held_runs a.runs.now a.trits.now) a.cells.now a.row _ _ c.word_of-from.ensures.0 c.word_of.ensures.0 c.requires.2 in operand_long (held_bits a.starts.now a.slots.now) (held_runs a.runs.now a.trits.now) _ _ c.gather_slots-n.ensures (omega arith) h

pub put_outputs-requires : goal.put_outputs-requires
put_outputs-requires c = let a = c.args in let h = first_at (held_runs a.runs.now a.trits.now) a.cells.now a.row _ _ c.word_of-from.ensures.0 c.word_of.ensures.0 c.requires.2 in let e = operand_is (held_bits a.starts.now a.slots.now) (held_runs a.runs.now a.trits.now) _ _ c.gather_slots-n.ensures (omega arith) h in let b = output_bits (held_bits a.starts.now a.slots.now) (held_runs a.runs.now a.trits.now) a.cells.now a.row _ _ c.if-cells-at-eq2.true c.word_of-from.ensures.0 c.word_of.ensures.0 in let l = ap length (e ∙ b) in let r = c.requires.4 in (omega (arith, l, operand_count (held_bits a.starts.now a.slots.now) (held_runs a.runs.now a.trits.now) _ _ c.gather_slots-n.ensures (omega arith) h, c.gather_slots-n.ensures.next, ap length b, h, c.requires.3), omega (arith, l, r.bytes, length_outputs (output_from (held_bits a.starts.now a.slots.now) (cell_of (held_runs a.runs.now a.trits.now) (drop (a.row * 9) a.cells.now))) a.j))

pub returns-then-cells-at-eq2 : goal.returns-then-cells-at-eq2
returns-then-cells-at-eq2 c = let a = c.args in let h = first_at (held_runs a.runs.now a.trits.now) a.cells.now a.row _ _ c.word_of-from.ensures.0 c.word_of.ensures.0 c.requires.2 in let e = operand_is (held_bits a.starts.now a.slots.now) (held_runs a.runs.now a.trits.now) _ _ c.gather_slots-n.ensures (omega arith) h in let b = output_bits (held_bits a.starts.now a.slots.now) (held_runs a.runs.now a.trits.now) a.cells.now a.row _ _ c.if-cells-at-eq2.true c.word_of-from.ensures.0 c.word_of.ensures.0 in (omega (arith, c.gather_slots-n.ensures.next, ap length b), puts_as (ap (λ (x : List ℕ). output_records x a.j) (e ∙ b)) c.put_outputs.ensures)

pub returns : goal.returns
unfolding output_records
returns c = let a = c.args in let e = no_output a.cells.now (held_runs a.runs.now a.trits.now) (held_bits a.starts.now a.slots.now) a.row (λ h. c.if-cells-at-eq2.false (sym (row_word a.cells.now a.row) ∙ h)) in (sym (ap length e), rw e (puts_nothing _ _))
