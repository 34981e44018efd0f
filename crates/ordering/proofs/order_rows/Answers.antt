use Rattle.ordering.proofs.Ordered.{clear_again, marks_clear, placed_clear}
use Rattle.ground.proofs.Regions.{length_zeros}
use lib.ListN.{length}
use mathlib.Core.Path.{ap}
use native.Mathlib.Omega.{arith}
use Rattle.ordering.proofs.order_rows.Goals as goal

pub slice_bounds-place-end : goal.slice_bounds-place-end
slice_bounds-place-end c = omega (arith, ap length c.requires.2, length_zeros 8192)

pub place-requires : goal.place-requires
place-requires c =
    let p = c.requires in
    (p.0, p.1, marks_clear _ p.2)

pub returns : goal.returns
returns c = (placed_clear c.place.ensures, clear_again _ c.args.work.now c.place.ensures.clear c.requires.2)
