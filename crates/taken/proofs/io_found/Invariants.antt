use Prim.Native.Nat.{◌-◌, ◌*◌, ◌≤◌}
use mathlib.Core.Path.{◌≡◌}
use lib.ListN.{drop}
use Rattle.asking.specs.Namesakes.{some_row, io_namesake}
use Rattle.taken.proofs.io_found.Given as goal

abbrev pub invariant-loop-i : goal.invariant-loop-i
invariant-loop-i l = (l.i ≤ l.n) × (some_row 3 (io_namesake l.text l.from l.size) (l.n - l.i) (drop (l.i * 3) l.ios) ≡ some_row 3 (io_namesake l.text l.from l.size) l.n l.ios)
