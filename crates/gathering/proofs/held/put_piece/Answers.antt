use Rattle.std.proofs.Common.{map, ◌+◌, arith}
use Rattle.std.proofs.lemmas.List.{map-set, length-map}
use Rattle.cells.proofs.Filling.{turn, done}
use Rattle.cells.proofs.Gathering as gathering
use Rattle.gathering.proofs.held.put_piece.Goals as goal

pub loop-i-preserved : goal.loop-i-preserved
loop-i-preserved g c =
    let l = c.loop-i in
    (omega arith, rw map-set (turn l.invariant.1 (gathering.rise_go (map g.T.Holds.value c.args.held.now) l.k (c.args.n + c.wide.result) l.i (omega arith)) c.held_at.ensures))

pub returns : goal.returns
returns g c =
    let l = c.loop-i in
    let a = c.args in
    let end = a.n + c.wide.result in
    let held = map g.T.Holds.value a.held.now in (
      record {
        next = rw (gathering.rise_length held a.at a.size) (omega arith);
        holds = done end l.invariant.1 (rw length-map (omega arith)) (gathering.rise_end held l.k end l.i);
      },
      omega arith,
    )
