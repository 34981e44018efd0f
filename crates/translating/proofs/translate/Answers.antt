use Rattle.netlist.specs.Good.{short}
use native.Mathlib.Omega.{arith}
use mathlib.Core.Path.{sym, ◌∙◌}
use Rattle.translating.proofs.Ways.{too_short, or_short, work_short, whole_way}
use borrow.Author.Rules.{rules}
use Rattle.translating.proofs.translate.Goals as goal

pub returns-then-is_short : goal.returns-then-is_short
returns-then-is_short c = let a = c.args in rw c.refused.ensures (too_short a.rows.now a.strings.now a.bits.now a.room.now a.work.now (or_short _ (sym c.is_short.ensures.is ∙ c.if-is_short.true)))

pub returns-then-work-lt8192 : goal.returns-then-work-lt8192
returns-then-work-lt8192 c = let a = c.args in rw c.refused-then-work-lt8192.ensures (too_short a.rows.now a.strings.now a.bits.now a.room.now a.work.now (work_short (short a.rows.now a.strings.now a.bits.now) a.work.now c.if-work-lt8192.true))

pub translate_lent-requires : goal.translate_lent-requires
translate_lent-requires c = (sym c.is_short.ensures.is ∙ c.if-is_short.false, search rules)

pub returns : goal.returns
returns c = let a = c.args in whole_way a.rows.now a.strings.now a.bits.now a.room.now a.work.now _ _ _ (sym c.is_short.ensures.is ∙ c.if-is_short.false) (omega (arith, c.if-work-lt8192.false)) c.translate_lent.ensures
