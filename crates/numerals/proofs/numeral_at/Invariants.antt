use mathlib.Core.Path.{◌≡◌}
use Prim.Native.Nat.{◌-◌, ◌≤◌}
use lib.ListN.{length, drop}
use Rattle.signs.specs.Pieces.{digits_from, limited, numeral_at}
use Rattle.numerals.proofs.numeral_at.Given as goal

abbrev pub invariant-loop-i : goal.invariant-loop-i
invariant-loop-i l = (l.n ≤ 42949672959) × (limited l.limit (digits_from (drop l.i l.text) l.n l.i) ≡ numeral_at l.limit l.text l.at)

abbrev pub decreases-loop-i : goal.decreases-loop-i
decreases-loop-i l = length l.text - l.i
