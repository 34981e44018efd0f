use mathlib.Core.Path.{◌≡◌}
use Prim.Native.Nat.{◌-◌}
use lib.ListN.{length}
use Rattle.saying.specs.Values.{base_bits, copies}
use Rattle.laying.proofs.Turning.{Turned}
use Rattle.cellruns.proofs.parts.add_copies.Given as goal

abbrev pub invariant-loop-done : goal.invariant-loop-done
invariant-loop-done l = (length l.runs ≡ length l.initial.runs) × (length l.trits ≡ length l.initial.trits)
    × Turned l.first l.initial.runs l.initial.trits l.initial.used (copies l.count (base_bits l.text l.base)) (copies (l.count - l._done) (base_bits l.text l.base)) l.runs l.trits l.used
