use Rattle.printing.proofs.Ready.{widths_few, all_narrow, numbers_again}
use Rattle.printing.proofs.Whole.{front_length}
use native.Mathlib.Omega.{arith}
use Rattle.printing.proofs.good.put_numbered.Goals as goal

pub slice_bounds-number_cells-end : goal.slice_bounds-number_cells-end
slice_bounds-number_cells-end c = let p = c.requires in omega (arith, p.2, widths_few p.0 p.1)

pub number_cells-requires : goal.number_cells-requires
number_cells-requires c = let s = c in let few = widths_few s.requires.0 s.requires.1 in (front_length s.args.numbers.now _ s.requires.2 few, few, all_narrow s.requires.0 s.requires.1)

pub slice_bounds-put_text-end : goal.slice_bounds-put_text-end
slice_bounds-put_text-end c = let p = c.requires in omega (arith, p.2, widths_few p.0 p.1)

pub put_text-requires : goal.put_text-requires
put_text-requires c = let s = c in (s.requires.0, s.requires.1, numbers_again _ _ s.args.widths.now c.number_cells.ensures)
