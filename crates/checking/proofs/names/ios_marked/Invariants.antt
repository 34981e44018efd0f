use mathlib.Core.Bool.{true}
use Prim.Native.Nat.{◌-◌, ◌*◌, ◌≤◌}
use mathlib.Core.Path.{◌≡◌}
use lib.ListN.{drop}
use Rattle.netlist.specs.Rules.{distinct}
use Rattle.marking.specs.Marks.{Marked}
use Rattle.checking.specs.Names.{io_names_in}
use Rattle.checking.proofs.names.ios_marked.Given as goal

abbrev pub invariant-loop-i : goal.invariant-loop-i
invariant-loop-i l = (l.i ≤ l.n) × Marked 255 l.seen (io_names_in l.strings (l.n - l.i) (drop (l.i * 3) l.ios)) × (distinct (io_names_in l.strings (l.n - l.i) (drop (l.i * 3) l.ios)) ≡ true)
