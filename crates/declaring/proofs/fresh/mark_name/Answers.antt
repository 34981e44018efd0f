use Rattle.declaring.proofs.fresh.mark_name.Goals as goal

pub returns : goal.returns
returns c = let m = c.name_mark.ensures in let n = c.is_new.ensures in record { new = rw m at n.0; left = rw m at n.1 }
