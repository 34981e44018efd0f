use Rattle.brackets.specs.Parts.{concat_from, concat_at}
use lib.ListN.{length}
use mathlib.Core.Path.{◌≡◌}
use Prim.Native.Nat.{◌+◌, ◌-◌, ◌*◌, ◌≤◌}
use Rattle.enclosed.proofs.measures.concat.Given as goal

abbrev pub invariant-loop-i : goal.invariant-loop-i
invariant-loop-i l = (l.width ≤ l.i * 4294967296) × (concat_from (length l.text + 1 - l.i) l.text l.width l.next.next.at ≡ concat_at l.text l.initial.next.next.at)
