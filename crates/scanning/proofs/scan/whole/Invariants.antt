use Prim.Native.Nat.{◌-◌}
use mathlib.Core.Path.{◌≡◌}
use lib.ListN.{length, drop}
use Rattle.scanning.specs.Whole.{bad_from, bad_at}
use Rattle.scanning.specs.Modes.{lacking}
use Rattle.scanning.proofs.scan.whole.Given as goal

abbrev pub invariant-loop-i : goal.invariant-loop-i
invariant-loop-i l = bad_from (drop l.i l.text) (lacking l.mode) l.from l.i ≡ bad_at l.text

abbrev pub decreases-loop-i : goal.decreases-loop-i
decreases-loop-i l = length l.text - l.i
