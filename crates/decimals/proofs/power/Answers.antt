use Rattle.writing.proofs.Digits.{power_at}
use Rattle.writing.proofs.Digits.{power_at, ten_pos}
use Rattle.decimals.proofs.power.Goals as goal

pub returns : goal.returns
returns c = let e = power_at c.args.k c.requires in (e, rw e (ten_pos c.args.k))
