use mathlib.Core.Path.{refl}
use Rattle.loadlist.proofs.Laws.{read_there}
use Rattle.loadlist.proofs.records.whole_record.Goals as goal

pub returns : goal.returns
returns c = let s = c.args in read_there s.list.now s.at refl c.field-first.ensures c.field-second.ensures
