use Prim.Native.Nat.{◌+◌, ◌-◌, ◌≤◌}
use Rattle.ground.specs.Lists.{up_from}
use Rattle.translating.specs.Translation.{input_records}
use Rattle.translating.proofs.Listing.{Left}
use Rattle.translating.proofs.records.put_inputs.Given as goal

abbrev pub invariant-loop-i : goal.invariant-loop-i
invariant-loop-i l = (l.i ≤ l.count) × Left l.initial.list 3 (input_records (up_from 0 l.count)) l.list (3 + l.i) (input_records (up_from l.i (l.count - l.i)))
