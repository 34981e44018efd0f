use Prim.Native.Nat.{◌-◌, ◌*◌, ◌≤◌}
use mathlib.Core.Path.{◌≡◌}
use lib.ListN.{drop}
use Rattle.netlist.specs.Good.{io_from}
use Rattle.netlist.specs.View.{ios_in}
use Rattle.checking.specs.Parts.{strings_alone}
use Rattle.checking.proofs.find_io.Given as goal

abbrev pub invariant-loop-i : goal.invariant-loop-i
invariant-loop-i l = (l.i ≤ l.n) × (io_from (ios_in (strings_alone l.strings) (l.n - l.i) (drop (l.i * 3) l.ios)) l.i l.name ≡ io_from (ios_in (strings_alone l.strings) l.n l.ios) 0 l.name)
