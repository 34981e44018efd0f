use Rattle.running.proofs.Laws.{slot_made, slot_later}
use Rattle.running.proofs.slots.slot_at.Goals as goal

pub returns-then-i-k : goal.returns-then-i-k
returns-then-i-k c = let s = c.args in slot_made s.work.now s.k s.i c.if-i-k.true

pub returns : goal.returns
returns c = let s = c.args in slot_later s.work.now s.k s.i c.if-i-k.false
