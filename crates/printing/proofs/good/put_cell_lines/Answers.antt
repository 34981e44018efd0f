use Rattle.printing.proofs.Ready.{cells_asked, cells_wrote}
use Rattle.printing.proofs.good.put_cell_lines.Goals as goal

pub put_cells-requires : goal.put_cells-requires
put_cells-requires c = let s = c in cells_asked s.requires.0 c.cells_of-cells.ensures c.runs_of-runs.ensures c.strings_of-strings.ensures c.run_trits_of-trits.ensures s.args.numbers.now s.requires.1

pub returns : goal.returns
returns c = let s = c in cells_wrote s.requires.0 c.cells_of-cells.ensures c.runs_of-runs.ensures c.strings_of-strings.ensures c.run_trits_of-trits.ensures s.args.numbers.now s.requires.1 s.args.widths.now c.put_cells.ensures
