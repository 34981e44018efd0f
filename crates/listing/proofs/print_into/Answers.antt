use Rattle.std.proofs.Common.{arith}
use Rattle.listing.proofs.Fits.{text_fits}
use Rattle.listing.proofs.print_into.Goals as goal

pub slice_bounds-translate_tables-end : goal.slice_bounds-translate_tables-end
slice_bounds-translate_tables-end g c =
    let h = text_fits _ _ _ _ _ _ _ c.in-Ok.is c.print_text.ensures in
    omega (arith, h)
