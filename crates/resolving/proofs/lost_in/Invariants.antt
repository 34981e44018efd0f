use Rattle.brackets.specs.Walks.{most_parts, parts_left}
use Rattle.resolving.specs.Resolving.{lost_from}
use mathlib.Core.Path.{◌≡◌}
use Rattle.resolving.proofs.lost_in.Given as goal

abbrev pub invariant-loop-part : goal.invariant-loop-part
invariant-loop-part l = lost_from l.map l.cells (parts_left l.text l.walk) ≡ lost_from l.map l.cells (parts_left l.text l.initial.walk)

abbrev pub decreases-loop-part : goal.decreases-loop-part
decreases-loop-part l = most_parts l.walk
