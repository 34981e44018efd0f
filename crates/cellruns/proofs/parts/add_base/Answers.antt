use Rattle.cellruns.proofs.parts.add_base.Goals as goal

pub add_constant-requires : goal.add_constant-requires
add_constant-requires c =
    let s = c in
    let a = s.args in
    let e = c.in-Constant.is in
    (rw e at s.requires.0, rw e at s.requires.1)

pub add_piece-requires : goal.add_piece-requires
add_piece-requires c =
    let s = c in
    let a = s.args in
    let e = c.in-Cell.is in
    let i = rw e at s.requires.0 in
    (i.0, i.1, record { trits = a.trits.now; opened = rw e at s.requires.1 })

pub returns-in-Constant : goal.returns-in-Constant
returns-in-Constant c =
    rw c.in-Constant.is c.add_constant.ensures

pub returns-in-Cell : goal.returns-in-Cell
returns-in-Cell c =
    let s = c in
    let a = s.args in
    rw c.in-Cell.is (c.add_piece.ensures a.trits.now)
