use mathlib.Core.Path.{◌≡◌}
use Prim.Native.Nat.{suc, ◌+◌, ◌-◌}
use lib.ListN.{length}
use Rattle.brackets.specs.Parts.{parts_from}
use Rattle.laying.proofs.Walking.{Walks}
use Rattle.cellruns.proofs.operands.lay_within.Given as goal

abbrev pub invariant-loop-done : goal.invariant-loop-done
invariant-loop-done l = (length l.runs ≡ length l.initial.runs) × (length l.trits ≡ length l.initial.trits)
    × Walks l.text (parts_from (suc (length l.text)) l.text l.initial.next.next.at) (parts_from (length l.text + 1 - l._done) l.text l.next.next.at) l.initial.runs l.initial.trits l.initial.used l.runs l.trits l.used l.bare
