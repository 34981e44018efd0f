use borrow.Author.Tests.{lt-ltb, le-ltb}
use Rattle.records.proofs.number_after.Goals as goal

pub returns-then-number-record_count : goal.returns-then-number-record_count
returns-then-number-record_count c = rw (← c.record_count.ensures, lt-ltb _ _ c.if-number-record_count.true)

pub returns : goal.returns
returns c = rw (← c.record_count.ensures, le-ltb _ _ c.if-number-record_count.false)
