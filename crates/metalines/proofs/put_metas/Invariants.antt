use Prim.Native.Nat.{◌-◌, ◌*◌}
use mathlib.Core.Path.{◌≡◌}
use lib.ListN.{length, drop}
use Rattle.writing.specs.Stands.{Leaves}
use Rattle.lines.specs.Pools.{pools}
use Rattle.netlist.specs.View.{metas_in}
use Rattle.lines.specs.Lines.{meta_lines}
use Rattle.metalines.proofs.put_metas.Given as goal

abbrev pub invariant-loop-i : goal.invariant-loop-i
invariant-loop-i l = (length l.room ≡ length l.initial.room) × Leaves l.initial.room l.n-2 (meta_lines 0 (metas_in (pools l.strings l.members l.trits) l.count l.rows)) l.room l.n (meta_lines l.i (metas_in (pools l.strings l.members l.trits) (l.count - l.i) (drop (l.i * 16) l.rows)))
