use Prim.Native.Nat.{◌-◌, ◌*◌}
use mathlib.Core.Path.{◌≡◌}
use lib.ListN.{length, drop}
use Rattle.writing.specs.Stands.{Leaves}
use Rattle.lines.specs.Pools.{pools}
use mathlib.Core.List.{[]}
use Rattle.netlist.specs.View.{ios_in}
use Rattle.lines.specs.Lines.{io_lines}
use Rattle.iolines.proofs.put_ios.Given as goal

abbrev pub invariant-loop-i : goal.invariant-loop-i
invariant-loop-i l = (length l.room ≡ length l.initial.room) × Leaves l.initial.room l.n-2 (io_lines (ios_in (pools l.strings [] []) l.count l.rows)) l.room l.n (io_lines (ios_in (pools l.strings [] []) (l.count - l.i) (drop (l.i * 3) l.rows)))
