use Rattle.evaluating.proofs.Entry.{cut_sound, cut_inside, cut_answer}
use Rattle.ground.specs.Regions.{part}
use Rattle.evaluating.proofs.evaluate_good.Goals as goal

pub evaluate_tables-requires : goal.evaluate_tables-requires
unfolding part
evaluate_tables-requires c = let a = c.args in let p = c.requires in let q = c.word_of.ensures.0 in rw (c.cells_of.ensures, c.runs_of.ensures, c.run_trits_of.ensures) (cut_sound a.rows.now a.strings.now a.bits.now p.0 p.1 p.2 p.3 _ q, cut_inside a.rows.now a.strings.now a.bits.now p.0 p.1 p.2 p.3 _ q, p.4)

pub returns : goal.returns
unfolding part
returns c = let a = c.args in let p = c.requires in let e = c.evaluate_tables.ensures in cut_answer a.rows.now a.strings.now a.bits.now p.0 p.1 p.2 p.3 _ c.word_of.ensures.0 a.ins.now a.outs.now a.work.now _ (rw (c.cells_of.ensures, c.runs_of.ensures, c.run_trits_of.ensures) at e)
