use native.Mathlib.Nat.{add-zero}
use lib.Seq.{get_or-drop}
use native.Mathlib.Omega.{arith}
use borrow.Author.Tests.{eq-eqb, ne_eqb}
use Rattle.checkcells.proofs.runs.trits_of.Goals as goal

pub returns-then-runs-at-eq0 : goal.returns-then-runs-at-eq0
returns-then-runs-at-eq0 c = (rw (get_or-drop, add-zero, eq-eqb _ 0 c.if-runs-at-eq0.true, get_or-drop) c.word_of.ensures.0, c.word_of.ensures.1)

pub returns : goal.returns
returns c = (rw (get_or-drop, add-zero, ne_eqb _ 0 c.if-runs-at-eq0.false), omega arith)
