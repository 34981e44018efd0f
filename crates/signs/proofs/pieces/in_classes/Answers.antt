use Rattle.signs.proofs.pieces.in_classes.Goals as goal

pub returns : goal.returns
returns c = rw (← c.class_at.ensures) c.between.ensures
