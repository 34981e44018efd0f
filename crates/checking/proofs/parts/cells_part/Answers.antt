use Rattle.checking.proofs.Laws.{cells_named}
use Rattle.checking.specs.Parts.{cells_part}
use Rattle.checkcells.specs.Runs.{widths_in}
use Rattle.checkcells.specs.Walk.{runs_upto}
use Prim.Native.Nat.{◌≤◌}
use native.Mathlib.Omega.{arith}
use mathlib.Core.Path.{sym, ◌∙◌}
use borrow.Author.Tests.{le-leb, lt-leb}
use Rattle.checking.proofs.parts.cells_part.Goals as goal

pub returns-then-n-gt512 : goal.returns-then-n-gt512
unfolding cells_part
returns-then-n-gt512 c = rw (lt-leb _ 512 c.if-n-gt512.true)

pub blank_behind-requires : goal.blank_behind-requires
blank_behind-requires c = let l : runs_upto c.cells_good.result ≤ 4096 = c.cells_good.ensures.1 in rw c.in_ok-x.was at l

pub names_distinct-requires : goal.names_distinct-requires
names_distinct-requires c = let a = c.args in let w = sym c.cells_good.ensures.0 ∙ c.in_ok-x.was in cells_named a.strings.now a.n a.cells.now (widths_in a.n a.cells.now) a.bits.now a.runs.now a.metas a.s _ _ _ _ _ c.requires.3 (omega (arith, c.requires.0, c.if-n-gt512.false)) w

pub returns-then-both : goal.returns-then-both
unfolding cells_part
returns-then-both c = let w = sym c.cells_good.ensures.0 ∙ c.in_ok-x.was in let e = rw (c.both-2.ensures, c.both.ensures, c.blank_behind.ensures, c.names_distinct.ensures) at (sym c.both-3.ensures ∙ c.if-both.true) in rw (le-leb _ 512 c.if-n-gt512.false, w, e)

pub returns-in_err-x : goal.returns-in_err-x
unfolding cells_part
returns-in_err-x c = let w = sym c.cells_good.ensures.0 ∙ c.in_err-x.was in rw (le-leb _ 512 c.if-n-gt512.false, w, c.from_residual.ensures)

pub returns : goal.returns
unfolding cells_part
returns c = let w = sym c.cells_good.ensures.0 ∙ c.in_ok-x.was in let e = rw (c.both-2.ensures, c.both.ensures, c.blank_behind.ensures, c.names_distinct.ensures) at (sym c.both-3.ensures ∙ c.if-both.false) in rw (le-leb _ 512 c.if-n-gt512.false, w, e)
