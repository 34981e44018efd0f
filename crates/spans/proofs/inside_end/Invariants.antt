use mathlib.Core.Path.{◌≡◌}
use Prim.Native.Nat.{◌-◌}
use mathlib.Core.Bool.{false}
use lib.ListN.{length, drop}
use Rattle.signs.specs.Pieces.{inside_end}
use Rattle.spans.proofs.inside_end.Given as goal

abbrev pub invariant-loop-i : goal.invariant-loop-i
invariant-loop-i l = inside_end (drop l.i l.text) false l.i ≡ inside_end (drop l.at l.text) false l.at

abbrev pub decreases-loop-i : goal.decreases-loop-i
decreases-loop-i l = length l.text - l.i
