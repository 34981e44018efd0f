use mathlib.Core.Path.{◌≡◌}
use lib.ListN.{length}
use Rattle.ground.specs.Regions.{zeros, over}
use Rattle.clearing.proofs.clear_words.Given as goal

abbrev pub invariant-loop-i : goal.invariant-loop-i
invariant-loop-i l = (l.words ≡ over l.i (zeros l.i) l.initial.words) × (length l.words ≡ length l.initial.words)
