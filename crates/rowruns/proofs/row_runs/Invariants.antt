use Rattle.resolving.proofs.Numbers.{RunsLefts}
use lib.ListN.{length}
use mathlib.Core.Path.{◌≡◌}
use Prim.Native.Nat.{◌-◌, ◌≤◌}
use Rattle.rowruns.proofs.row_runs.Given as goal

abbrev pub invariant-loop-i : goal.invariant-loop-i
invariant-loop-i l = (l.i ≤ l.n) × (length l.runs ≡ 12288) × RunsLefts l.map l.n l.initial.runs l.i l.runs
