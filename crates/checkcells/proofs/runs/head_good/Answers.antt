use Rattle.checkcells.specs.Runs.{head_good}
use borrow.Author.Tests.{eq-eqb, ne_eqb}
use Rattle.checkcells.proofs.runs.head_good.Goals as goal

pub returns-then-more-eq0 : goal.returns-then-more-eq0
unfolding head_good
returns-then-more-eq0 c = rw (← c.run_good.ensures, c.if-run_good.true, eq-eqb _ 0 c.if-more-eq0.true)

pub returns-then-joins_next : goal.returns-then-joins_next
unfolding head_good
returns-then-joins_next c = rw (← c.run_good.ensures, c.if-run_good.true, ne_eqb _ 0 c.if-more-eq0.false, ← c.joins_next.ensures, c.if-joins_next.true)

pub returns-then-run_good : goal.returns-then-run_good
unfolding head_good
returns-then-run_good c = rw (← c.run_good.ensures, c.if-run_good.true, ne_eqb _ 0 c.if-more-eq0.false, ← c.joins_next.ensures, c.if-joins_next.false)

pub returns : goal.returns
unfolding head_good
returns c = rw (← c.run_good.ensures, c.if-run_good.false)
