use native.Mathlib.Omega.{arith}
use Rattle.ground.proofs.Tests.{tests}
use Rattle.kinds.specs.Kinds.{kind_at}
use Rattle.translating.proofs.sum.records_of.Goals as goal

pub returns-then-kind-eq1 : goal.returns-then-kind-eq1
unfolding kind_at
returns-then-kind-eq1 c = (search tests, omega arith)

pub returns-then-kind-eq2 : goal.returns-then-kind-eq2
unfolding kind_at
returns-then-kind-eq2 c = (search tests, omega arith)

pub returns-then-kind-eq3 : goal.returns-then-kind-eq3
unfolding kind_at
returns-then-kind-eq3 c = (search tests, omega arith)

pub returns-then-kind-eq4 : goal.returns-then-kind-eq4
unfolding kind_at
returns-then-kind-eq4 c = (search tests, omega arith)

pub returns-then-kind-eq5 : goal.returns-then-kind-eq5
unfolding kind_at
returns-then-kind-eq5 c = (search tests, omega arith)

pub returns-then-kind-eq6 : goal.returns-then-kind-eq6
unfolding kind_at
returns-then-kind-eq6 c = (search tests, omega arith)

pub returns-then-kind-eq7 : goal.returns-then-kind-eq7
unfolding kind_at
returns-then-kind-eq7 c = (search tests, omega arith)

pub returns-then-kind-eq8 : goal.returns-then-kind-eq8
unfolding kind_at
returns-then-kind-eq8 c = (search tests, omega arith)

pub returns-then-kind-eq9 : goal.returns-then-kind-eq9
unfolding kind_at
returns-then-kind-eq9 c = (search tests, omega arith)

pub returns-then-kind-eq10 : goal.returns-then-kind-eq10
unfolding kind_at
returns-then-kind-eq10 c = (search tests, omega arith)

pub returns-then-kind-eq11 : goal.returns-then-kind-eq11
unfolding kind_at
returns-then-kind-eq11 c = (search tests, omega arith)

pub returns-then-kind-eq12 : goal.returns-then-kind-eq12
unfolding kind_at
returns-then-kind-eq12 c = (search tests, omega arith)

pub returns : goal.returns
unfolding kind_at
returns c = (search tests, omega arith)
