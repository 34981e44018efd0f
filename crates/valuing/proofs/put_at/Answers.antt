use Rattle.valuing.proofs.Laws.{placed_back}
use Rattle.valuing.proofs.put_at.Goals as goal

pub returns : goal.returns
returns c = placed_back c.args.values.now _ _ c.args.start c.args.end c.requires.0 c.requires.1 c.put_value.ensures
