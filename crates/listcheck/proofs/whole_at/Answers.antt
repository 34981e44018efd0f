use Rattle.loadlist.proofs.Laws.{whole_there}
use Rattle.listcheck.proofs.whole_at.Goals as goal

pub returns : goal.returns
returns c = whole_there c.args.list.now c.args.k
