use Rattle.metas.proofs.add_meta.Goals as goal

pub returns : goal.returns
returns c = record { in_rows = c.add_rows.ensures; in_bits = c.add_trits.ensures; in_work = c.add_number.ensures }
