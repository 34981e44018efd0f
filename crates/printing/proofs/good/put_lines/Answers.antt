use Rattle.printing.proofs.Ready.{few_ios, numbers_many, lines_wrote}
use Rattle.printing.proofs.good.put_lines.Goals as goal

pub put_io_lines-n-requires : goal.put_io_lines-n-requires
put_io_lines-n-requires c = let p = c.requires in (p.0.rows_long, p.0.strings_long, few_ios p.0)

pub put_cell_lines-requires : goal.put_cell_lines-requires
put_cell_lines-requires c = let p = c.requires in (p.0, numbers_many p.0 p.1 p.2)

pub returns : goal.returns
returns c = let p = c.requires in lines_wrote p.0 p.1 p.2 c.put_meta_lines-n.ensures c.put_io_lines-n.ensures c.put_cell_lines.ensures
