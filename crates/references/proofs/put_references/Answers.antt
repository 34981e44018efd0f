use Rattle.writing.proofs.Stands.{then, same_text, nothing}
use Rattle.writing.proofs.Parts.{members_some, members_none}
use Rattle.references.proofs.put_references.Goals as goal

pub returns-then-start-end : goal.returns-then-start-end
returns-then-start-end c = let e = c.wide-start.ensures.0 in
    same_text (then c.put_reference-m.ensures c.put_more_references.ensures) (λ k. rw (← e) (members_some _ _ _ _ c.end_of-end.ensures c.if-start-end.true k))

pub returns : goal.returns
returns c = let e = c.wide-start.ensures.0 in
    same_text (nothing _ _) (λ k. rw (← e) (members_none _ _ _ _ c.end_of-end.ensures c.if-start-end.false k))
