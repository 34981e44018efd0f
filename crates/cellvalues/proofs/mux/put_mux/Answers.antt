use borrow.Author.Tests.{eq-eqb, ne_eqb}
use Rattle.trit.specs.Mux.{mux_bits}
use Rattle.cellvalues.proofs.mux.put_mux.Goals as goal

pub returns-then-s-eq1 : goal.returns-then-s-eq1
unfolding mux_bits
returns-then-s-eq1 c = rw (eq-eqb c.args.s 1 c.if-s-eq1.true) c.copy.ensures

pub returns-then-s-eq0 : goal.returns-then-s-eq0
unfolding mux_bits
returns-then-s-eq0 c =
    let s = c.args.s in
    rw (ne_eqb s 1 c.if-s-eq1.false, eq-eqb s 0 c.if-s-eq0.true) c.copy-then-s-eq0.ensures

pub returns : goal.returns
unfolding mux_bits
returns c =
    let s = c.args.s in
    rw (ne_eqb s 1 c.if-s-eq1.false, ne_eqb s 0 c.if-s-eq0.false) c.put_x.ensures
