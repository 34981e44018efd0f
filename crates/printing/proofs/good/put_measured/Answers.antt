use Rattle.printing.proofs.Ready.{few_cells, widths_asked, widths_again}
use native.Mathlib.Omega.{arith}
use Rattle.printing.proofs.good.put_measured.Goals as goal

pub slice_bounds-take_widths-end : goal.slice_bounds-take_widths-end
slice_bounds-take_widths-end c = let p = c.requires in omega (arith, p.1, few_cells p.0, c.word_of-n.ensures.0)

pub take_widths-requires : goal.take_widths-requires
take_widths-requires c = let s = c in widths_asked s.requires.0 c.word_of-n.ensures.0 c.cells_of.ensures s.args.widths.now s.requires.1

pub slice_bounds-put_numbered-end : goal.slice_bounds-put_numbered-end
slice_bounds-put_numbered-end c = let p = c.requires in omega (arith, p.1, few_cells p.0, c.word_of-n.ensures.0)

pub put_numbered-requires : goal.put_numbered-requires
put_numbered-requires c = let s = c in (s.requires.0, widths_again s.requires.0 c.word_of-n.ensures.0 c.cells_of.ensures s.args.widths.now s.requires.1 _ _ c.take_widths.ensures, s.requires.2)
