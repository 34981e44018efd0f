use native.Mathlib.Omega.{arith}
use Rattle.regions.proofs.Parts.{region_length}
use Rattle.checking.proofs.Top.{metas_cut}
use Rattle.checking.proofs.metas_region.Goals as goal

pub metas_part-requires : goal.metas_part-requires
metas_part-requires c = let z = c in (region_length 3 8192 z.args.rows.now c.metas_of.ensures (omega (arith, z.requires.0)), region_length 8195 1024 z.args.rows.now c.members_of.ensures (omega (arith, z.requires.0)), region_length 0 131072 z.args.bits.now c.attr_trits_of.ensures (omega (arith, z.requires.1)))

pub returns : goal.returns
returns c = let a = c.args in (metas_cut a.rows.now a.bits.now _ _ _ _ _ c.metas_of.ensures c.members_of.ensures c.attr_trits_of.ensures c.word_of.ensures.0 c.metas_part.ensures.0, c.metas_part.ensures.1)
