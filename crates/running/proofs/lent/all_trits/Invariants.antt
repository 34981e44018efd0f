use mathlib.Core.Path.{◌≡◌}
use Prim.Native.Nat.{◌≤◌}
use lib.ListN.{length, drop}
use Rattle.running.proofs.Laws.{trits}
use Rattle.running.proofs.lent.all_trits.Given as goal

abbrev pub invariant-loop-i : goal.invariant-loop-i
invariant-loop-i l = (l.i ≤ length l.bits) × (trits (drop l.i l.bits) ≡ trits l.bits)
