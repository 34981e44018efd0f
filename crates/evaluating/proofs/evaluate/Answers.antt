use Rattle.evaluating.proofs.Ways.{too_short, whole_way}
use Rattle.netlist.specs.Good.{short}
use mathlib.Core.Path.{sym, ◌∙◌}
use lib.ListN.{length}
use borrow.Author.Rules.{rules}
use borrow.Author.Tests.{lt-ltb}
use Rattle.ground.proofs.Bools.{or_left, or_right}
use Rattle.evaluating.proofs.evaluate.Goals as goal

pub returns-then-is_short : goal.returns-then-is_short
returns-then-is_short c = let a = c.args in rw c.refused.ensures (too_short a.rows.now a.strings.now a.bits.now a.ins.now a.outs.now a.work.now (or_left _ _ (sym c.is_short.ensures.is ∙ c.if-is_short.true)))

pub returns-then-work-lt8192 : goal.returns-then-work-lt8192
returns-then-work-lt8192 c = let a = c.args in rw c.refused-then-work-lt8192.ensures (too_short a.rows.now a.strings.now a.bits.now a.ins.now a.outs.now a.work.now (or_right (short a.rows.now a.strings.now a.bits.now) _ (lt-ltb (length a.work.now) 8192 c.if-work-lt8192.true)))

pub evaluate_in-requires : goal.evaluate_in-requires
evaluate_in-requires c = let l = c.is_short.ensures.long c.if-is_short.false in (l.0, l.1, l.2, search rules)

pub returns : goal.returns
returns c = let a = c.args in whole_way a.rows.now a.strings.now a.bits.now a.ins.now a.outs.now a.work.now _ _ _ (sym c.is_short.ensures.is ∙ c.if-is_short.false) c.if-work-lt8192.false c.evaluate_in.ensures
