use borrow.Author.Tests.{eq-eqb}
use Rattle.kinds.specs.Kinds.{kind_at}
use Rattle.kinds.proofs.Numbers.{unnamed}
use Rattle.kinds.proofs.has_name.Goals as goal

pub returns-then-kind-eq1 : goal.returns-then-kind-eq1
unfolding kind_at
returns-then-kind-eq1 c = rw (eq-eqb _ 1 c.if-kind-eq1.true)

pub returns-else-kind-eq1 : goal.returns-else-kind-eq1
returns-else-kind-eq1 c = unnamed c.args.kind c.if-kind-eq1.false
