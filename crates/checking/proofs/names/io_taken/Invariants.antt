use Prim.Native.Nat.{◌-◌, ◌*◌, ◌≤◌}
use mathlib.Core.Path.{◌≡◌}
use lib.ListN.{drop}
use Rattle.netlist.specs.Rules.{taken}
use Rattle.checking.specs.Names.{io_names_in}
use Rattle.checking.proofs.names.io_taken.Given as goal

abbrev pub invariant-loop-i : goal.invariant-loop-i
invariant-loop-i l = (l.i ≤ l.n) × (taken l.name (io_names_in l.strings (l.n - l.i) (drop (l.i * 3) l.ios)) ≡ taken l.name (io_names_in l.strings (l.n - l.from) (drop (l.from * 3) l.ios)))
