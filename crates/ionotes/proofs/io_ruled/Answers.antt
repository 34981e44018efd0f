use Rattle.noting.proofs.IoNotes.{io_twice, io_once, held_taken}
use Rattle.noting.specs.Rulings.{io_in}
use mathlib.Core.Path.{◌∙◌}
use Rattle.ionotes.proofs.io_ruled.Goals as goal

pub returns-then-io_taken : goal.returns-then-io_taken
returns-then-io_taken c = let a = c.args in λ N h t. let i = io_in a.text.now a.name a.width in c.refuse.ensures ∙ io_twice N i a.place (held_taken N i h t c.io_taken.ensures ∙ c.if-io_taken.true)

pub returns : goal.returns
returns c = let a = c.args in λ N h t. let i = io_in a.text.now a.name a.width in c.io_limits.ensures a.text.now N c.requires.2 t ∙ io_once N i a.place (held_taken N i h t c.io_taken.ensures ∙ c.if-io_taken.false)
