use borrow.Author.Tests.{eq-eqb, ne_eqb}
use Rattle.cellvalues.specs.Picked.{gate_of}
use Rattle.cellvalues.proofs.gates.gate_bit.Goals as goal

pub returns-then-kind-eq5 : goal.returns-then-kind-eq5
unfolding gate_of
returns-then-kind-eq5 c = rw (eq-eqb c.args.kind 5 c.if-kind-eq5.true) c.and3.ensures

pub returns-then-kind-eq6 : goal.returns-then-kind-eq6
unfolding gate_of
returns-then-kind-eq6 c =
    let k = c.args.kind in
    rw (ne_eqb k 5 c.if-kind-eq5.false, eq-eqb k 6 c.if-kind-eq6.true) c.or3.ensures

pub returns : goal.returns
unfolding gate_of
returns c =
    let k = c.args.kind in
    rw (ne_eqb k 5 c.if-kind-eq5.false, ne_eqb k 6 c.if-kind-eq6.false) c.xor3.ensures
