use Rattle.regions.proofs.Parts.{region_length}
use native.Mathlib.Omega.{arith}
use Rattle.checking.proofs.Top.{ios_cut}
use Rattle.checking.proofs.ios_region.Goals as goal

pub ios_part-requires : goal.ios_part-requires
ios_part-requires c = let z = c in (region_length 9219 192 z.args.rows.now c.ios_of.ensures (omega (arith, z.requires.0)), z.requires.1, z.requires.2)

pub returns : goal.returns
returns c = let a = c.args in (ios_cut a.rows.now a.strings.now _ _ a.s _ c.ios_of.ensures c.word_of.ensures.0 c.ios_part.ensures.0, c.ios_part.ensures.1)
