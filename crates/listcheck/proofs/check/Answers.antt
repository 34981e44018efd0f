use mathlib.Core.Path.{sym, ◌∙◌}
use native.Mathlib.Omega.{arith}
use borrow.Author.Rules.{rules}
use Rattle.loadlist.proofs.Walk.{passed_none, passed_more, listed_bad, listed_good, good_early}
use Rattle.listcheck.proofs.check.Goals as goal

pub loop-k-init : goal.loop-k-init
loop-k-init c = (search rules, search rules, search rules, passed_none _ _ c.record_count-n.ensures)

pub loop-k-preserved : goal.loop-k-preserved
loop-k-preserved c =
    let l = c in
    let good = sym c.good_record.ensures ∙ c.if-not-good_record.false in
    let early = good_early _ _ _ _ good in (
      omega arith,
      omega (arith, c.counted_with-inputs.ensures.1),
      omega (arith, c.counted_with-outputs.ensures.1),
      passed_more _ _ l.loop-k.invariant.3 c.loop-k-test.true c.record_at-r.ensures good c.counted_with-inputs.ensures.0 c.counted_with-outputs.ensures.0,
    )

pub returns-then-not-good_record : goal.returns-then-not-good_record
returns-then-not-good_record c = listed_bad c.loop-k.invariant.3 c.loop-k-test.true (sym c.good_record.ensures ∙ c.if-not-good_record.true)

pub returns : goal.returns
returns c = listed_good c.loop-k.invariant.3 (omega arith)
