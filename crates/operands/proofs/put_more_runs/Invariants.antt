use Prim.Native.Nat.{◌-◌}
use mathlib.Core.Path.{◌≡◌}
use lib.ListN.{length}
use Rattle.writing.specs.Parts.{up_to}
use Rattle.writing.specs.Stands.{Leaves}
use Rattle.operands.specs.Operands.{more_runs, held_runs}
use Rattle.operands.proofs.put_more_runs.Given as goal

abbrev pub invariant-loop-i : goal.invariant-loop-i
invariant-loop-i l = (length l.room ≡ length l.initial.room) × Leaves l.initial.room l.n-2 (more_runs l.numbers l.widths (up_to l.i-2 l.end (held_runs l.rows l.trits))) l.room l.n (more_runs l.numbers l.widths (up_to l.i l.end (held_runs l.rows l.trits)))
