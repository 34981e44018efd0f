use mathlib.Core.Path.{sym}
use native.Mathlib.Omega.{arith}
use Rattle.kinds.specs.Kinds.{kind_at}
use Rattle.kinds.proofs.Numbers.{no_kind_lem}
use Rattle.celllines.proofs.kind_of.Goals as goal

pub returns : goal.returns
unfolding kind_at
returns c = (sym (no_kind_lem c.args.x (omega (arith, c.if-x-lt13.false))), omega arith)
