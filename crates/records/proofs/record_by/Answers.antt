use Rattle.records.proofs.record_by.Goals as goal

pub returns : goal.returns
returns c = c.record_at.ensures
