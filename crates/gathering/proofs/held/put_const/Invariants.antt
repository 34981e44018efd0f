use Rattle.std.proofs.Common.{◌≡◌, map, reverse, ◌+◌, ◌-◌}
use Rattle.ground.specs.Regions.{part}
use Rattle.cells.proofs.Filling.{Leaves}
use Rattle.gathering.proofs.held.put_const.Given as goal

abbrev pub invariant-loop-i : goal.invariant-loop-i
invariant-loop-i g l =
    let value = g.T.Holds.value in
    (l.k + l.i ≡ l.high + l.n) × Leaves (map value l.initial.out) l.n (reverse (part l.start l.size l.trits)) (map value l.out) l.i (reverse (part l.low (l.k - l.low) l.trits))
