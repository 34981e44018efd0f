use Rattle.metas.specs.MetaRows.{rows_of}
use Rattle.saying.specs.Notes.{Maps}
use Rattle.brackets.specs.Walks.{members_left}
use lib.Seq.{sets}
use lib.ListN.{length}
use mathlib.Core.Path.{◌≡◌}
use mathlib.Core.List.{List}
use Prim.Native.Nat.{ℕ, ◌+◌, ◌≤◌}
use Rattle.metas.proofs.put_set.Given as goal

abbrev pub invariant-loop-m : goal.invariant-loop-m
invariant-loop-m l = (length l.pool ≡ length l.initial.pool) × (l.to + length (members_left l.text l.tour) ≤ length l.initial.pool) × ((ns : List ℕ) → Maps ns l.map → sets l.pool l.to (rows_of ns (members_left l.text l.tour)) ≡ sets l.initial.pool l.initial.to (rows_of ns (members_left l.text l.initial.tour)))

abbrev pub decreases-loop-m : goal.decreases-loop-m
decreases-loop-m l = l.tour.left
