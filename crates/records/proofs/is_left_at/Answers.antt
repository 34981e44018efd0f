use Rattle.records.proofs.is_left_at.Goals as goal

pub returns : goal.returns
returns c = rw (← c.record_count.ensures)
