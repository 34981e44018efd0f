use Rattle.ground.specs.Regions.{part}
use lib.Seq.{sets}
use lib.ListN.{take}
use mathlib.Core.Path.{◌≡◌}
use Prim.Native.Nat.{◌-◌}
use Rattle.assigning.proofs.copy_bits.Given as goal

abbrev pub invariant-loop-i : goal.invariant-loop-i
invariant-loop-i l = l.to ≡ sets l.initial.to l.place (take l.i (part l.at l.size l.from))
