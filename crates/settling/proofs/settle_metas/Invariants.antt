use Rattle.settling.proofs.Metas.{Lefts}
use lib.ListN.{length}
use mathlib.Core.Path.{◌≡◌}
use Prim.Native.Nat.{◌-◌, ◌≤◌}
use Rattle.settling.proofs.settle_metas.Given as goal

abbrev pub invariant-loop-i : goal.invariant-loop-i
invariant-loop-i l = (l.i ≤ l.n) × (length l.metas ≡ length l.initial.metas) × (length l.strings ≡ length l.initial.strings) × Lefts l.text l.n l.initial.metas l.initial.strings l.i l.metas l.strings l.so
