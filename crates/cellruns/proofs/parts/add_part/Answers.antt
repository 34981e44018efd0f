use Rattle.cellruns.proofs.parts.add_part.Goals as goal

pub add_base-requires : goal.add_base-requires
add_base-requires c =
    let s = c in
    let a = s.args in
    let e = c.in-One.is in
    (rw e at s.requires.0, rw e at s.requires.1)

pub add_copies-requires : goal.add_copies-requires
add_copies-requires c =
    let s = c in
    let a = s.args in
    let e = c.in-Repeated.is in
    (rw e at s.requires.0, rw e at s.requires.1)

pub returns-in-One : goal.returns-in-One
returns-in-One c =
    rw c.in-One.is c.add_base.ensures

pub returns-in-Repeated : goal.returns-in-Repeated
returns-in-Repeated c =
    rw c.in-Repeated.is c.add_copies.ensures
