use Rattle.std.proofs.Common.{◌≡◌, map, reverse, ◌+◌, ◌-◌, min, length, arith}
use Rattle.std.proofs.lemmas.List.{map-set, length-map}
use Rattle.ground.specs.Regions.{part}
use Rattle.ground.proofs.Writes.{put_nothing}
use Rattle.cells.proofs.Filling.{start, turn, done}
use Rattle.cells.proofs.Gathering as gathering
use Rattle.gathering.proofs.held.put_const.Goals as goal

pub returns-then-trits-low : goal.returns-then-trits-low
returns-then-trits-low g c =
    let a = c.args in
    (gathering.put_as (put_nothing _ _) (gathering.const_none a.trits.now a.start a.size (omega arith)), omega arith)

pub loop-i-init : goal.loop-i-init
loop-i-init g c =
    let a = c.args in
    let low = c.wide-low.result in
    let high = c.least-high.result in
    let e : high - low ≡ min a.size (length a.trits.now - low) = omega arith in
    (omega arith, rw (gathering.part_cut low (high - low) a.size a.trits.now e, c.wide-low.ensures.0) (start (map g.T.Holds.value a.out.now) a.n (reverse (part a.start a.size a.trits.now))))

pub loop-i-preserved : goal.loop-i-preserved
loop-i-preserved g c =
    let l = c.loop-i in
    (omega arith, rw map-set (turn l.invariant.1 (gathering.const_go c.args.trits.now c.wide-low.result l.k (omega arith) (omega arith)) (g.met.T.Holds.trit_held _ _ c.from.ensures)))

pub returns : goal.returns
returns g c =
    let l = c.loop-i in
    let a = c.args in
    let low = c.wide-low.result in
    let end = a.n + (c.least-high.result - low) in (
      record {
        next = rw (gathering.const_length a.trits.now a.start a.size) (omega arith);
        holds = done end l.invariant.1 (rw length-map (omega arith)) (λ h. gathering.const_end a.trits.now low l.k (omega arith));
      },
      omega arith,
    )
