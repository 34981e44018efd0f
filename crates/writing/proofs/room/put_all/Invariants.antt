use Prim.Native.Nat.{◌-◌, ◌≤◌}
use mathlib.Core.Path.{◌≡◌}
use mathlib.Core.List.{◌++◌}
use lib.ListN.{length, drop}
use Rattle.writing.specs.Stands.{Leaves}
use Rattle.writing.proofs.room.put_all.Given as goal

abbrev pub invariant-loop-i : goal.invariant-loop-i
invariant-loop-i l = (length l.room ≡ length l.initial.room) × (l.i ≤ length l.word) × Leaves l.initial.room l.n-2 (λ k. l.word ++ k) l.room l.n (λ k. drop l.i l.word ++ k)
