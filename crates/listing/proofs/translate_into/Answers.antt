use Rattle.std.proofs.Common.{arith}
use Rattle.listing.proofs.Fits.{list_fits}
use Rattle.listing.proofs.translate_into.Goals as goal

pub overflow_mul-n : goal.overflow_mul-n
overflow_mul-n g c =
    let h = list_fits _ _ _ _ _ _ _ _ _ c.in-Ok.is c.translate.ensures in
    record { fits = omega (arith, h) }

pub slice_bounds-tell_both-end : goal.slice_bounds-tell_both-end
slice_bounds-tell_both-end g c =
    let h = list_fits _ _ _ _ _ _ _ _ _ c.in-Ok.is c.translate.ensures in
    omega (arith, h)
