use Rattle.std.proofs.Common.{map, arith}
use Rattle.ground.proofs.Writes.{put_nothing, put_then}
use Rattle.cells.specs.Held.{held_runs, held_bits}
use Rattle.cells.proofs.Gathering.{put_as, gather_none, gather_go, gather_all}
use Rattle.gathering.proofs.held.gather_held.Goals as goal

pub loop-k-init : goal.loop-k-init
loop-k-init g c =
    let a = c.args in
    let bits = held_bits a.starts.now (map g.T.Holds.value a.held.now) in
    (omega arith, c.rows_end-k.ensures, omega arith, put_as (put_nothing _ _) (gather_none bits (held_runs a.runs.now a.trits.now) c.rows_end-k.result))

pub loop-k-preserved : goal.loop-k-preserved
loop-k-preserved g c =
    let l = c.loop-k in
    let a = c.args in
    let bits = held_bits a.starts.now (map g.T.Holds.value a.held.now) in
    (omega arith, l.invariant.1, omega (arith, c.put_run-n.ensures.1), put_as (put_then l.invariant.3 c.put_run-n.ensures.0) (gather_go bits a.runs.now a.trits.now l.k c.rows_end-k.result (omega arith) l.auto.k (omega arith)))

pub returns : goal.returns
returns g c =
    let l = c.loop-k in
    let a = c.args in
    let bits = held_bits a.starts.now (map g.T.Holds.value a.held.now) in
    put_as l.invariant.3 (gather_all bits a.runs.now a.trits.now a.from a.size l.k c.rows_end-k.result (omega arith) l.invariant.1)
