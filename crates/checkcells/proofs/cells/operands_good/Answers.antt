use Rattle.checkcells.specs.Walk.{operands_walk}
use Rattle.checkcells.specs.Runs.{end_of, wide_of}
use Prim.Native.Nat.{◌≤◌, ◌<◌}
use mathlib.Core.Path.{sym, ◌∙◌}
use native.Mathlib.Omega.{arith}
use Rattle.checkcells.proofs.cells.operands_good.Goals as goal

pub operand_of-requires-2 : goal.operand_of-requires-2
operand_of-requires-2 c = let d : end_of c.operand_of.result ≤ 262656 = c.operand_of.ensures.2 in (c.requires.0, c.requires.1, omega (arith, c.requires.3), c.requires.2, rw c.in_ok-x.was at d)

pub operand_of-requires-3 : goal.operand_of-requires-3
operand_of-requires-3 c = let d : end_of c.operand_of-2.result ≤ 262656 = c.operand_of-2.ensures.2 in (c.requires.0, c.requires.1, omega (arith, c.requires.3), c.requires.2, rw c.in_ok-y.was at d)

pub returns-in_err-x : goal.returns-in_err-x
unfolding operands_walk
returns-in_err-x c = (rw (sym c.operand_of.ensures.0 ∙ c.in_err-x.was, c.from_residual.ensures), rw c.from_residual.ensures (omega arith), rw c.from_residual.ensures (omega arith))

pub returns-in_err-y : goal.returns-in_err-y
unfolding operands_walk
returns-in_err-y c = (rw (sym c.operand_of.ensures.0 ∙ c.in_ok-x.was, sym c.operand_of-2.ensures.0 ∙ c.in_err-y.was, c.from_residual-in_err-y.ensures), rw c.from_residual-in_err-y.ensures (omega arith), rw c.from_residual-in_err-y.ensures (omega arith))

pub returns-in_err-z : goal.returns-in_err-z
unfolding operands_walk
returns-in_err-z c = (rw (sym c.operand_of.ensures.0 ∙ c.in_ok-x.was, sym c.operand_of-2.ensures.0 ∙ c.in_ok-y.was, sym c.operand_of-3.ensures.0 ∙ c.in_err-z.was, c.from_residual-in_err-z.ensures), rw c.from_residual-in_err-z.ensures (omega arith), rw c.from_residual-in_err-z.ensures (omega arith))

pub returns : goal.returns
unfolding operands_walk
returns c = let d : end_of c.operand_of-3.result ≤ 262656 = c.operand_of-3.ensures.2 in let w : wide_of c.operand_of.result < 17592186044417 = c.operand_of.ensures.1 in (rw (sym c.operand_of.ensures.0 ∙ c.in_ok-x.was, sym c.operand_of-2.ensures.0 ∙ c.in_ok-y.was, sym c.operand_of-3.ensures.0 ∙ c.in_ok-z.was), rw c.in_ok-x.was at w, rw c.in_ok-z.was at d)
