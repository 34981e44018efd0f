use Rattle.printing.proofs.Whole.{bare_text, full_text}
use Rattle.netlist.specs.Tables.{tables_in}
use Rattle.printing.proofs.good.put_text.Goals as goal

pub returns-then-is_bare : goal.returns-then-is_bare
unfolding tables_in
returns-then-is_bare c = let a = c.args in bare_text (tables_in a.rows.now a.strings.now a.bits.now) c.is_bare.ensures c.if-is_bare.true c.put.ensures

pub returns : goal.returns
unfolding tables_in
returns c = let a = c.args in full_text (tables_in a.rows.now a.strings.now a.bits.now) c.is_bare.ensures c.if-is_bare.false c.put_lines.ensures
