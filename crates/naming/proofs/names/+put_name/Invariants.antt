use Rattle.naming.proofs.names.+put_name.Given as goal

abbrev pub decreases-put_name : goal.decreases-put_name
decreases-put_name l = l.row
