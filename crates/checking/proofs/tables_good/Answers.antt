use native.Mathlib.Omega.{arith}
use Rattle.regions.proofs.Parts.{region_length}
use Rattle.checking.proofs.Top.{metas_wrong, ios_wrong, cells_wrong, to_the_end}
use Rattle.checking.specs.Walk.{upto_of}
use mathlib.Core.Path.{sym, ◌∙◌}
use Prim.Native.Nat.{◌≤◌}
use Rattle.checking.proofs.tables_good.Goals as goal

pub ios_region-requires : goal.ios_region-requires
ios_region-requires c = let z = c in let l : upto_of c.metas_region.result ≤ 16384 = c.metas_region.ensures.1 in (z.requires.0, region_length 0 16384 z.args.strings.now c.strings_of-text.ensures (omega (arith, z.requires.1)), rw c.in-Some.is at l)

pub cells_region-requires : goal.cells_region-requires
cells_region-requires c = let z = c in let l : upto_of c.ios_region.result ≤ 16384 = c.ios_region.ensures.1 in (z.requires.0, region_length 0 16384 z.args.strings.now c.strings_of-text.ensures (omega (arith, z.requires.1)), z.requires.2, rw c.in-Some-ios_region.is at l)

pub returns-in_default : goal.returns-in_default
returns-in_default c = let z = c in metas_wrong z.args.rows.now z.args.strings.now z.args.bits.now _ z.requires (λ i. (c.type_inv.strings i).fits) (λ i. (c.type_inv.rows i).fits) c.strings_of-text.ensures (sym c.metas_region.ensures.0 ∙ c.in_default.is)

pub returns-in_default-ios_region : goal.returns-in_default-ios_region
returns-in_default-ios_region c = let z = c in ios_wrong z.args.rows.now z.args.strings.now z.args.bits.now _ z.requires (λ i. (c.type_inv.strings i).fits) (λ i. (c.type_inv.rows i).fits) c.strings_of-text.ensures _ (sym c.metas_region.ensures.0 ∙ c.in-Some.is) (sym c.ios_region.ensures.0 ∙ c.in_default-ios_region.is)

pub returns-in_default-cells_region : goal.returns-in_default-cells_region
returns-in_default-cells_region c = let z = c in cells_wrong z.args.rows.now z.args.strings.now z.args.bits.now _ z.requires (λ i. (c.type_inv.strings i).fits) (λ i. (c.type_inv.rows i).fits) c.strings_of-text.ensures _ _ (sym c.metas_region.ensures.0 ∙ c.in-Some.is) (sym c.ios_region.ensures.0 ∙ c.in-Some-ios_region.is) (sym c.cells_region.ensures ∙ c.in_default-cells_region.is)

pub returns : goal.returns
returns c = let z = c in c.no_bytes.ensures ∙ to_the_end z.args.rows.now z.args.strings.now z.args.bits.now _ z.requires (λ i. (c.type_inv.strings i).fits) (λ i. (c.type_inv.rows i).fits) c.strings_of-text.ensures _ _ _ (sym c.metas_region.ensures.0 ∙ c.in-Some.is) (sym c.ios_region.ensures.0 ∙ c.in-Some-ios_region.is) (sym c.cells_region.ensures ∙ c.in-Some-cells_region.is)
