use Rattle.asking.proofs.refs.ref_row.Goals as goal

pub returns-then-r : goal.returns-then-r
returns-then-r c = (rw c.if-r.true c.row_of.ensures.0, λ ns m h. rw c.if-r.true (c.row_of.ensures.1 ns m h))

pub returns : goal.returns
returns c = (rw c.if-r.false, λ ns m h. rw c.if-r.false)
