use Prim.Native.Nat.{◌-◌, ◌≤◌}
use mathlib.Core.Path.{◌≡◌}
use mathlib.Core.List.{map}
use Rattle.signs.specs.Bytes.{trit_of}
use Rattle.ground.specs.Regions.{part}
use lib.ListN.{length, take}
use lib.Seq.{sets}
use Rattle.constants.proofs.copy_trits.Given as goal

abbrev pub invariant-loop-i : goal.invariant-loop-i
invariant-loop-i l = (l.i ≤ l.size) × (length l.trits ≡ length l.initial.trits) × (l.trits ≡ sets l.initial.trits l.at (take l.i (map trit_of (part l.from l.size l.text))))
