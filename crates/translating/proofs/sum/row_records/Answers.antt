use native.Mathlib.Omega.{arith}
use mathlib.Core.Path.{refl, ap, ◌∙◌}
use Rattle.netlist.specs.Netlist.{operand_width, Run}
use mathlib.Core.List.{List}
use Rattle.cells.specs.Held.{held_runs}
use Rattle.translating.proofs.Sums.{first_is, row_sum_lem}
use Rattle.translating.proofs.sum.row_records.Goals as goal

pub records_of-requires : goal.records_of-requires
records_of-requires c = let a = c.args in (c.word_of-3.ensures.1, omega (arith, c.requires.2, ap (λ (r : List Run). operand_width r) (first_is (held_runs a.runs.now a.trits.now) a.cells.now a.row), rw (c.word_of.ensures.0, c.word_of-2.ensures.0) at c.width_of-first.ensures))

pub returns : goal.returns
returns c = let a = c.args in (c.records_of.ensures.0 ∙ row_sum_lem (held_runs a.runs.now a.trits.now) a.cells.now a.row _ _ _ refl c.word_of-3.ensures.0 (rw (c.word_of.ensures.0, c.word_of-2.ensures.0) at c.width_of-first.ensures), c.records_of.ensures.1)
