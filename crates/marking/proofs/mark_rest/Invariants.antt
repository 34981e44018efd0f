use mathlib.Core.Path.{◌≡◌}
use Prim.Native.Nat.{◌-◌}
use lib.ListN.{length, drop}
use Rattle.marking.specs.Marks.{mark_from}
use Rattle.marking.proofs.mark_rest.Given as goal

abbrev pub invariant-loop-i : goal.invariant-loop-i
invariant-loop-i l = mark_from l.mark (drop l.i l.name) ≡ mark_from l.start (drop l.from l.name)
