use Rattle.wiring.proofs.name_size.Goals as goal

pub returns-then-has_name : goal.returns-then-has_name
returns-then-has_name c = rw (← c.has_name.ensures, c.if-has_name.true)

pub returns : goal.returns
returns c = rw (← c.has_name.ensures, c.if-has_name.false)
