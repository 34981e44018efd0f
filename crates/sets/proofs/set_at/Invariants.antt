use Rattle.brackets.specs.Parts.{set_from, set_at}
use lib.ListN.{length}
use mathlib.Core.Path.{◌≡◌}
use Prim.Native.Nat.{◌+◌, ◌-◌}
use Rattle.sets.proofs.set_at.Given as goal

abbrev pub invariant-loop-count : goal.invariant-loop-count
invariant-loop-count l = set_from (length l.text + 1 - l.count) l.text l.count l.next.next.at ≡ set_at l.text l.initial.next.next.at
