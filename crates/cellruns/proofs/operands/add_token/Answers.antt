use borrow.Author.Tests.{lt-leb, eq-eqb, ne_eqb}
use Rattle.cellruns.proofs.operands.add_token.Goals as goal

pub returns-then-token-ge4 : goal.returns-then-token-ge4
returns-then-token-ge4 c = rw (← c.part_of.ensures) c.add_part.ensures

pub add_constant-requires : goal.add_constant-requires
add_constant-requires c =
    let p = lt-leb 4 _ c.if-token-ge4.false in
    let e = eq-eqb _ 4 c.if-token-eq4.true in
    rw c.str_of.ensures (rw (p, e) at c.requires.0, rw (p, e) at c.requires.1)

pub returns-then-token-eq4 : goal.returns-then-token-eq4
returns-then-token-eq4 c =
    let p = lt-leb 4 _ c.if-token-ge4.false in
    let e = eq-eqb _ 4 c.if-token-eq4.true in
    rw (p, e) (rw c.str_of.ensures at c.add_constant.ensures)

pub add_piece-requires : goal.add_piece-requires
add_piece-requires c =
    let p = lt-leb 4 _ c.if-token-ge4.false in
    let e = ne_eqb _ 4 c.if-token-eq4.false in
    let i = rw (p, e) at c.requires.0 in
    (i.0, i.1, record { trits = c.args.trits.now; opened = rw (p, e) at c.requires.1 })

pub returns : goal.returns
returns c =
    let p = lt-leb 4 _ c.if-token-ge4.false in
    let e = ne_eqb _ 4 c.if-token-eq4.false in
    rw (p, e) (c.add_piece.ensures c.args.trits.now)
