use native.Mathlib.Omega.{arith}
use Rattle.ground.specs.Regions.{part}
use Rattle.checking.proofs.Top.{checked_good}
use Rattle.translating.proofs.Lent.{cut_sound, is_translated}
use Rattle.translating.proofs.translate_good.Goals as goal

pub word_of-n-requires : goal.word_of-n-requires
word_of-n-requires c = let a = c.args in omega (arith, (checked_good a.rows.now a.strings.now a.bits.now c.requires.0).0.rows_long)

pub translate_tables-requires : goal.translate_tables-requires
unfolding part
translate_tables-requires c = let a = c.args in rw (c.cells_of.ensures, c.runs_of.ensures, c.run_trits_of.ensures) (rw c.word_of-n.ensures.0 (cut_sound a.rows.now a.strings.now a.bits.now c.requires.0), c.requires.1)

pub returns : goal.returns
unfolding part
returns c = let a = c.args in let e = c.translate_tables.ensures in is_translated a.rows.now a.strings.now a.bits.now c.requires.0 c.word_of-n.result c.word_of-n.ensures.0 (rw (c.cells_of.ensures, c.runs_of.ensures, c.run_trits_of.ensures) at e)
