use Rattle.std.proofs.Common.{◌≡◌, map, ◌+◌, ◌-◌}
use Rattle.cells.specs.Held.{rising}
use Rattle.cells.proofs.Filling.{Leaves}
use Rattle.gathering.proofs.held.put_piece.Given as goal

abbrev pub invariant-loop-i : goal.invariant-loop-i
invariant-loop-i g l =
    let value = g.T.Holds.value in
    (l.k + l.n ≡ l.at + l.i) × Leaves (map value l.initial.out) l.n (rising (map value l.held) l.at l.size) (map value l.out) l.i (rising (map value l.held) l.k (l.end - l.i))
