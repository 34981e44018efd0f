use Prim.Native.Nat.{suc, ◌<◌, ◌^◌}
use mathlib.Core.Path.{◌≡◌}
use mathlib.Core.List.{◌++◌}
use lib.ListN.{length}
use Rattle.writing.specs.Decimal.{digits}
use Rattle.writing.specs.Stands.{Leaves}
use Rattle.decimals.proofs.put_digits.Given as goal

abbrev pub invariant-loop-i : goal.invariant-loop-i
invariant-loop-i l = (length l.room ≡ length l.initial.room) × (l.i < 10) × (l.left < 10 ^ suc l.i) × Leaves l.initial.room l.n-2 (λ t. digits l.k l.x ++ t) l.room l.n (λ t. digits l.i l.left ++ t)
