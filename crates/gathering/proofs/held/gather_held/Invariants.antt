use Rattle.std.proofs.Common.{◌≡◌, map, ◌+◌, ◌-◌, ◌*◌, ◌≤◌, min}
use Rattle.ground.specs.Regions.{part}
use Rattle.ground.specs.Writes.{Put}
use Rattle.cells.specs.Operands.{bits_from}
use Rattle.cells.specs.Held.{held_runs, held_bits}
use Rattle.gathering.proofs.held.gather_held.Given as goal

abbrev pub invariant-loop-k : goal.invariant-loop-k
invariant-loop-k g l =
    let value = g.T.Holds.value in
    (l.from ≤ l.k) × (l.initial.k ≡ l.from + min l.size (4096 - l.from)) × (l.n ≤ (l.initial.k - l.k) * 4294967295) × Put (map value l.initial.out) 0 (bits_from (held_bits l.starts (map value l.held)) (part l.k (l.initial.k - l.k) (held_runs l.runs l.trits))) l.n (map value l.out)
