use Rattle.signs.specs.Bytes.{among}
use mathlib.Core.Path.{◌≡◌}
use Prim.Native.Nat.{◌≤◌, ◌-◌}
use lib.ListN.{length, drop}
use Rattle.signs.specs.Pieces.{span_end}
use Rattle.spans.proofs.span.Given as goal

abbrev pub invariant-loop-i : goal.invariant-loop-i
invariant-loop-i l = (l.at ≤ l.i) × (span_end (among l.low l.high) (drop l.i l.text) l.i ≡ span_end (among l.low l.high) (drop l.at l.text) l.at)

abbrev pub decreases-loop-i : goal.decreases-loop-i
decreases-loop-i l = length l.text - l.i
