use borrow.Author.Tests.{eq-eqb, ne_eqb}
use Rattle.cellvalues.specs.Picked.{compare_bit}
use Rattle.cellvalues.proofs.compare.compare_bit.Goals as goal

pub returns-then-kind-eq10 : goal.returns-then-kind-eq10
unfolding compare_bit
returns-then-kind-eq10 c = rw (eq-eqb c.args.kind 10 c.if-kind-eq10.true) c.eq_bit.ensures

pub returns-then-kind-eq11 : goal.returns-then-kind-eq11
unfolding compare_bit
returns-then-kind-eq11 c =
    let k = c.args.kind in
    rw (ne_eqb k 10 c.if-kind-eq10.false, eq-eqb k 11 c.if-kind-eq11.true) c.ult_bit.ensures

pub returns : goal.returns
unfolding compare_bit
returns c =
    let k = c.args.kind in
    rw (ne_eqb k 10 c.if-kind-eq10.false, ne_eqb k 11 c.if-kind-eq11.false) c.slt_bit.ensures
