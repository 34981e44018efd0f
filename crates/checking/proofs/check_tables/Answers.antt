use Rattle.netlist.specs.Good.{check_of}
use mathlib.Core.Path.{sym, ◌∙◌}
use Rattle.checking.proofs.check_tables.Goals as goal

pub returns-then-is_short : goal.returns-then-is_short
unfolding check_of
returns-then-is_short c = rw (sym c.is_short.ensures.is ∙ c.if-is_short.true, c.refused.ensures)

pub tables_good-requires : goal.tables_good-requires
tables_good-requires c = c.is_short.ensures.long c.if-is_short.false

pub returns-then-tables_good : goal.returns-then-tables_good
unfolding check_of
returns-then-tables_good c = rw (sym c.is_short.ensures.is ∙ c.if-is_short.false, sym c.tables_good.ensures ∙ c.if-tables_good.true)

pub returns : goal.returns
unfolding check_of
returns c = rw (sym c.is_short.ensures.is ∙ c.if-is_short.false, sym c.tables_good.ensures ∙ c.if-tables_good.false, c.refused-2.ensures)
