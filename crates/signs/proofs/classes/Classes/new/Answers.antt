use mathlib.Core.Path.{refl}
use Rattle.signs.specs.Bytes.{class_from, class_of, classes_from, table}
use Rattle.signs.proofs.classes.Classes.new.Goals as goal

pub invariant_of-result : goal.invariant_of-result
unfolding table classes_from class_of class_from
invariant_of-result c = record { right = refl }
