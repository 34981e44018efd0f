use Rattle.std.proofs.lemmas.Result.{err_from_is_err_and}
use Rattle.ionotes.proofs.Added.{io_region, io_added}
use Rattle.noting.proofs.IoNotes.{io_asks, io_passed, io_room, io_refused}
use Rattle.noting.specs.Rulings.{io_in}
use Rattle.ground.specs.Regions.{part}
use mathlib.Core.Path.{sym, ◌∙◌}
use Rattle.ionotes.proofs.note_io.Goals as goal

pub io_ruled-requires : goal.io_ruled-requires
unfolding part
io_ruled-requires c = let s = c in let a = s.args in let p = s.requires.1 in let q = io_asks a.text.now p.so a.n a.rows.now p.bits p.work p.noted in (q.0, q.1, s.requires.2, s.requires.3)

pub add_io-more-requires : goal.add_io-more-requires
unfolding part
add_io-more-requires c = let s = c in let a = s.args in let p = s.requires.1 in let N = p.so.netlist in let i = io_in a.text.now a.name a.width in (io_region a.rows.now p.noted.long_rows, io_room a.text.now N a.name a.width a.n s.requires.0 s.requires.2 (io_passed N i a.place a.n p.noted.tally (sym (c.io_ruled.ensures N p.noted.ios p.noted.tally) ∙ c.in_ok-io_ruled.was)))

pub returns-in_err-io_ruled : goal.returns-in_err-io_ruled
unfolding part
returns-in_err-io_ruled c = let a = c.args in let q = err_from_is_err_and c.from_residual.result c.from_residual.ensures.1 in λ bits work so index d. rw (q.1, q.2) (io_refused a.text.now so a.place index a.name a.width _ (sym (c.io_ruled.ensures so.netlist d.ios d.tally) ∙ c.in_err-io_ruled.was))

pub returns : goal.returns
unfolding part
returns c =
    let m = c.add_io-more.ensures in
    let p = c in
    let q = p in
    let s = q in
    let a = s.args in λ bits work so index d. io_added a.text.now so a.n a.rows.now bits work a.place index a.name a.width d s.requires.2 (sym (q.io_ruled.ensures so.netlist d.ios d.tally) ∙ p.in_ok-io_ruled.was) _ _ m.0 m.1
