use mathlib.Core.Path.{ap, ◌∙◌}
use lib.ListN.{length}
use Rattle.ground.proofs.Regions.{length_zeros}
use Rattle.finishing.proofs.Finishing.{few_rows}
use Rattle.reading.proofs.Answering.{all_ready, end_lost, end_found}
use Rattle.ending.proofs.end_reading.Goals as goal

pub lost_piece-requires : goal.lost_piece-requires
lost_piece-requires c = let p = c in
    let a = p.args in
    let s = p.requires.0 in
    let d = s.whole.noted in
    let few = few_rows a.text.now s.whole.so a.n a.rows.now s.bits a.work.now d in
    (d.long_rows, d.long_work, few.2, few.3)

pub finish-requires : goal.finish-requires
finish-requires c = let p = c in
    let s = p.requires.0 in
    (record { so = s.whole.so; bits = s.bits; ready = all_ready c.lost_piece.ensures c.in-None.is s.bits s.whole }, ap length p.requires.1 ∙ length_zeros 16384)

pub returns-in-Some : goal.returns-in-Some
returns-in-Some c = end_lost c.lost_piece.ensures _ c.in-Some.is _

pub returns-in-None : goal.returns-in-None
returns-in-None c = end_found c.lost_piece.ensures c.in-None.is c.requires.1 c.finish.ensures
