use Rattle.settling.proofs.Ios.{Lefts}
use lib.ListN.{length}
use mathlib.Core.Path.{◌≡◌}
use Prim.Native.Nat.{◌-◌, ◌≤◌}
use Rattle.settling.proofs.settle_ios.Given as goal

abbrev pub invariant-loop-i : goal.invariant-loop-i
invariant-loop-i l = (l.i ≤ l.n) × (length l.ios ≡ length l.initial.ios) × (length l.strings ≡ length l.initial.strings) × Lefts l.text l.n l.first l.initial.ios l.initial.strings l.i l.ios l.strings l.s
