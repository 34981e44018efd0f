use Rattle.checking.specs.Parts.{metas_part}
use Rattle.checkmeta.specs.Walk.{strings_upto}
use Prim.Native.Nat.{◌≤◌}
use native.Mathlib.Omega.{arith}
use mathlib.Core.Path.{sym, ◌∙◌}
use borrow.Author.Tests.{le-leb, lt-leb}
use Rattle.checking.proofs.parts.metas_part.Goals as goal

pub returns-then-n-gt512 : goal.returns-then-n-gt512
unfolding metas_part
returns-then-n-gt512 c = (rw (lt-leb _ 512 c.if-n-gt512.true), omega arith)

pub returns-then-both : goal.returns-then-both
unfolding metas_part
returns-then-both c = let l : strings_upto c.metas_good.result ≤ 16384 = c.metas_good.ensures.1 in let w = sym c.metas_good.ensures.0 ∙ c.in_ok-s.was in let e = rw (c.no_words.ensures, c.no_bytes.ensures) at (sym c.both.ensures ∙ c.if-both.true) in (rw (le-leb _ 512 c.if-n-gt512.false, w, e), rw c.in_ok-s.was at l)

pub returns-in_err-s : goal.returns-in_err-s
unfolding metas_part
returns-in_err-s c = let w = sym c.metas_good.ensures.0 ∙ c.in_err-s.was in (rw (le-leb _ 512 c.if-n-gt512.false, w, c.from_residual.ensures), rw c.from_residual.ensures (omega arith))

pub returns : goal.returns
unfolding metas_part
returns c = let w = sym c.metas_good.ensures.0 ∙ c.in_ok-s.was in let e = rw (c.no_words.ensures, c.no_bytes.ensures) at (sym c.both.ensures ∙ c.if-both.false) in (rw (le-leb _ 512 c.if-n-gt512.false, w, e), omega arith)
