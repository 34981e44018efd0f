use Prim.Native.Nat.{◌-◌}
use mathlib.Core.Path.{◌≡◌}
use lib.ListN.{length}
use Rattle.writing.specs.Stands.{Leaves}
use Rattle.writing.specs.Parts.{up_to}
use Rattle.writing.specs.Words.{more_references}
use Rattle.references.proofs.put_more_references.Given as goal

abbrev pub invariant-loop-i : goal.invariant-loop-i
invariant-loop-i l = (length l.room ≡ length l.initial.room) × Leaves l.initial.room l.n-2 (more_references (up_to l.i-2 l.end l.members)) l.room l.n (more_references (up_to l.i l.end l.members))
