use Rattle.valuing.proofs.Laws.{given_bits, given_room}
use native.Mathlib.Omega.{arith}
use Rattle.valuing.proofs.give_bits.Goals as goal

pub overflow_add-result : goal.overflow_add-result
overflow_add-result c = let a = c.args in omega (arith, given_room (Rattle.cells.specs.Held.held_bits a.starts.now a.values.now) (Rattle.cells.specs.Held.held_runs a.runs.now a.trits.now) _ _ _ _ c.word_in-from.ensures.0 c.word_in-size.ensures.0 a.answer.now _ _ _ _ c.requires.2 c.gather-n.ensures, c.well_formed.1.1.1.1.1.1.0.1)

pub returns : goal.returns
returns c = let a = c.args in given_bits (Rattle.cells.specs.Held.held_bits a.starts.now a.values.now) (Rattle.cells.specs.Held.held_runs a.runs.now a.trits.now) _ _ _ _ c.word_in-from.ensures.0 c.word_in-size.ensures.0 a.answer.now _ _ _ c.requires.2 c.gather-n.ensures
