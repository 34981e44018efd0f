use mathlib.Core.Path.{◌≡◌}
use lib.ListN.{length}
use Rattle.ground.specs.Regions.{zeros, over}
use Rattle.clearing.proofs.clear_bytes.Given as goal

abbrev pub invariant-loop-i : goal.invariant-loop-i
invariant-loop-i l = (l.bytes ≡ over l.i (zeros l.i) l.initial.bytes) × (length l.bytes ≡ length l.initial.bytes)
