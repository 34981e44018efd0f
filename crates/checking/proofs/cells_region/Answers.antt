use native.Mathlib.Omega.{arith}
use Rattle.regions.proofs.Parts.{region_length}
use Rattle.checking.proofs.Top.{cells_cut}
use Rattle.checking.proofs.cells_region.Goals as goal

pub cells_part-requires : goal.cells_part-requires
cells_part-requires c = let z = c in let h = z.requires in (region_length 9411 4608 z.args.rows.now c.cells_of.ensures (omega (arith, h.0)), region_length 14019 12288 z.args.rows.now c.runs_of.ensures (omega (arith, h.0)), region_length 131072 262656 z.args.bits.now c.run_trits_of.ensures (omega (arith, h.2)), h.1, h.3)

pub returns : goal.returns
returns c = let a = c.args in cells_cut a.rows.now a.strings.now a.bits.now _ _ _ _ _ a.s _ c.cells_of.ensures c.runs_of.ensures c.run_trits_of.ensures c.word_of.ensures.0 c.word_of-2.ensures.0 c.cells_part.ensures
