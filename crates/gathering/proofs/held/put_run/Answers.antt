use Rattle.std.proofs.Common.{map, ◌*◌}
use Rattle.cells.specs.Held.{held_bits}
use Rattle.cells.proofs.Gathering.{put_as, const_held, piece_held}
use Rattle.gathering.proofs.held.put_run.Goals as goal

pub returns-then-cell-eq0 : goal.returns-then-cell-eq0
returns-then-cell-eq0 g c =
    let a = c.args in
    (put_as c.put_const.ensures.0 (const_held a.runs.now a.trits.now (a.k * 3) c.word_at-cell.result c.word_at-first.result c.word_at-size.result c.word_at-cell.ensures c.word_at-first.ensures c.word_at-size.ensures (held_bits a.starts.now (map g.T.Holds.value a.held.now)) c.if-cell-eq0.true), c.put_const.ensures.1)

pub returns : goal.returns
returns g c =
    let a = c.args in
    let p = rw (c.wide-2.ensures.0, c.wide-3.ensures.0) at c.put_piece.ensures.0 in
    (put_as p (piece_held a.runs.now a.trits.now (a.k * 3) c.word_at-cell.result c.word_at-first.result c.word_at-size.result c.word_at-cell.ensures c.word_at-first.ensures c.word_at-size.ensures a.starts.now (map g.T.Holds.value a.held.now) c.word_at-start.result (rw c.wide.ensures.0 at c.word_at-start.ensures) c.if-cell-eq0.false), c.put_piece.ensures.1)
