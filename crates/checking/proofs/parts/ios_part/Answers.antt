use Rattle.checking.proofs.Laws.{ios_named}
use Rattle.checking.specs.Parts.{ios_part}
use Rattle.checking.specs.Walk.{upto_of}
use Prim.Native.Nat.{◌≤◌}
use native.Mathlib.Omega.{arith}
use mathlib.Core.Path.{sym, ◌∙◌}
use borrow.Author.Tests.{le-leb, lt-leb}
use Rattle.checking.proofs.parts.ios_part.Goals as goal

pub returns-then-n-gt64 : goal.returns-then-n-gt64
unfolding ios_part
returns-then-n-gt64 c = (rw (lt-leb _ 64 c.if-n-gt64.true), omega arith)

pub ios_distinct-requires : goal.ios_distinct-requires
ios_distinct-requires c = let a = c.args in let w = sym c.ios_good.ensures.0 ∙ c.in_ok-t.was in ios_named a.strings.now a.n a.ios.now a.s _ c.requires.1 (omega (arith, c.requires.0, c.if-n-gt64.false)) w

pub returns-then-ios_distinct : goal.returns-then-ios_distinct
unfolding ios_part
returns-then-ios_distinct c = let l : upto_of c.ios_good.result ≤ 16384 = c.ios_good.ensures.1 in let w = sym c.ios_good.ensures.0 ∙ c.in_ok-t.was in (rw (le-leb _ 64 c.if-n-gt64.false, w, ← c.ios_distinct.ensures, c.if-ios_distinct.true), rw c.in_ok-t.was at l)

pub returns-in_err-t : goal.returns-in_err-t
unfolding ios_part
returns-in_err-t c = let w = sym c.ios_good.ensures.0 ∙ c.in_err-t.was in (rw (le-leb _ 64 c.if-n-gt64.false, w, c.from_residual.ensures), rw c.from_residual.ensures (omega arith))

pub returns : goal.returns
unfolding ios_part
returns c = let w = sym c.ios_good.ensures.0 ∙ c.in_ok-t.was in (rw (le-leb _ 64 c.if-n-gt64.false, w, ← c.ios_distinct.ensures, c.if-ios_distinct.false), omega arith)
