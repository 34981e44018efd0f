use mathlib.Core.Path.{◌∙◌, sym}
use Prim.Native.Nat.{◌*◌}
use lib.ListN.{drop}
use Rattle.loadlist.proofs.Laws.{good_late, good_part, good_unmarked, good_fields}
use Rattle.listcheck.proofs.good_record.Goals as goal

pub returns-then-k-ge8192 : goal.returns-then-k-ge8192
returns-then-k-ge8192 c = let s = c.args in good_late (drop (8 * s.k) s.list.now) s.k s.inputs s.outputs c.if-k-ge8192.true

pub returns-then-marked_at : goal.returns-then-marked_at
returns-then-marked_at c =
    let m = c in
    let w = m in
    let s = w.args in
    (rw c.record_at.ensures at c.fields_fit.ensures) ∙ good_fields (drop (8 * s.k) s.list.now) s.k s.inputs s.outputs w.if-k-ge8192.false (sym w.whole_at.ensures ∙ m.if-whole_at.true) (sym m.marked_at.ensures ∙ c.if-marked_at.true)

pub returns-else-marked_at : goal.returns-else-marked_at
returns-else-marked_at c =
    let w = c in
    let s = w.args in
    good_unmarked (drop (8 * s.k) s.list.now) s.k s.inputs s.outputs w.if-k-ge8192.false (sym w.whole_at.ensures ∙ c.if-whole_at.true) (sym c.marked_at.ensures ∙ c.if-marked_at.false)

pub returns-else-whole_at : goal.returns-else-whole_at
returns-else-whole_at c =
    let s = c.args in
    good_part (drop (8 * s.k) s.list.now) s.k s.inputs s.outputs c.if-k-ge8192.false (sym c.whole_at.ensures ∙ c.if-whole_at.false)
