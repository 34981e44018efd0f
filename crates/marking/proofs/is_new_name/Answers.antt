use Rattle.marking.proofs.is_new_name.Goals as goal

pub returns : goal.returns
returns c =
    let m = c.mark_of.ensures in
    let n = c.is_new.ensures in
    (rw m at n.0, rw m at n.1)
