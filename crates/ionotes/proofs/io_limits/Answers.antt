use Rattle.noting.proofs.IoNotes.{io_nameless, io_misfit, io_cramps, io_passes}
use Rattle.noting.specs.Rulings.{io_in}
use mathlib.Core.Path.{sym, ◌∙◌}
use Rattle.ionotes.proofs.io_limits.Goals as goal

pub returns-then-size-eq0 : goal.returns-then-size-eq0
returns-then-size-eq0 c = let a = c.args in λ text N s t. c.refuse.ensures ∙ io_nameless N (io_in text a.name a.width) a.place (sym s.size ∙ c.if-size-eq0.true)

pub returns-then-io_cramped : goal.returns-then-io_cramped
returns-then-io_cramped c = let p = c in let a = p.args in λ text N s t. let i = io_in text a.name a.width in c.refuse-then-io_cramped.ensures ∙ io_cramps N i a.place (λ z. p.if-size-eq0.false (s.size ∙ z)) (sym c.wide.ensures ∙ c.if-wide.true) (sym (c.io_cramped.ensures N i t s.size) ∙ c.if-io_cramped.true)

pub returns-then-wide : goal.returns-then-wide
returns-then-wide c = let p = c in let a = p.args in λ text N s t. let i = io_in text a.name a.width in io_passes N i a.place (λ z. p.if-size-eq0.false (s.size ∙ z)) (sym c.wide.ensures ∙ c.if-wide.true) (sym (c.io_cramped.ensures N i t s.size) ∙ c.if-io_cramped.false)

pub returns : goal.returns
returns c = let p = c in let a = p.args in λ text N s t. let i = io_in text a.name a.width in c.refuse-2.ensures ∙ io_misfit N i a.place (λ z. p.if-size-eq0.false (s.size ∙ z)) (sym c.wide.ensures ∙ c.if-wide.false)
