use Rattle.valuing.proofs.Laws.{no_output, an_output, gives_none, gives_bits}
use mathlib.Core.Path.{sym, ◌∙◌}
use Rattle.valuing.proofs.give_row.Goals as goal

pub give_bits-requires : goal.give_bits-requires
give_bits-requires c = let a = c.args in (c.requires.0, c.requires.1, (rw (an_output a.cells.now (Rattle.cells.specs.Held.held_runs a.runs.now a.trits.now) (Rattle.cells.specs.Held.held_bits a.starts.now a.values.now) a.row (sym c.word_in-kind.ensures.0 ∙ c.if-kind-eq2.true)) at c.requires.2))

pub returns-then-kind-eq2 : goal.returns-then-kind-eq2
returns-then-kind-eq2 c = let a = c.args in gives_bits (an_output a.cells.now (Rattle.cells.specs.Held.held_runs a.runs.now a.trits.now) (Rattle.cells.specs.Held.held_bits a.starts.now a.values.now) a.row (sym c.word_in-kind.ensures.0 ∙ c.if-kind-eq2.true)) c.give_bits.ensures

pub returns : goal.returns
returns c = let a = c.args in gives_none a.answer.now a.at _ (no_output a.cells.now (Rattle.cells.specs.Held.held_runs a.runs.now a.trits.now) (Rattle.cells.specs.Held.held_bits a.starts.now a.values.now) a.row (λ e. c.if-kind-eq2.false (c.word_in-kind.ensures.0 ∙ e)))
