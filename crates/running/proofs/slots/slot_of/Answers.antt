use mathlib.Core.Path.{◌∙◌}
use lib.ListN.{take}
use Rattle.ground.proofs.Tests.{tests}
use Rattle.running.proofs.Laws.{slot_gate, slot_not}
use Rattle.running.proofs.slots.slot_of.Goals as goal

pub returns-then-op-gt4 : goal.returns-then-op-gt4
returns-then-op-gt4 c =
    let s = c.args in
    (rw (c.slot_at-y.ensures, c.slot_at-x.ensures) at c.gate_of.ensures) ∙ slot_gate s.r s.ins.now (take s.k s.work.now) c.if-op-gt4.true

pub returns-then-op-lt3 : goal.returns-then-op-lt3
returns-then-op-lt3 c = search tests

pub returns-then-op-eq3 : goal.returns-then-op-eq3
returns-then-op-eq3 c = search (tests, ← c.byte_at.ensures)

pub returns : goal.returns
returns c =
    let s = c.args in
    (rw c.slot_at.ensures at c.not3.ensures) ∙ slot_not s.r s.ins.now (take s.k s.work.now) c.if-op-gt4.false c.if-op-lt3.false c.if-op-eq3.false
