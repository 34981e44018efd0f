use Prim.Native.Nat.{◌+◌, ◌≤◌}
use lib.ListN.{length, drop}
use Rattle.translating.specs.Translation.{output_records}
use Rattle.translating.proofs.Listing.{Left}
use Rattle.translating.proofs.records.put_outputs.Given as goal

abbrev pub invariant-loop-i : goal.invariant-loop-i
invariant-loop-i l = (l.i ≤ length l.slots) × Left l.initial.list l.k (output_records l.slots l.j) l.list (l.k + l.i) (output_records (drop l.i l.slots) (l.j + l.i))
