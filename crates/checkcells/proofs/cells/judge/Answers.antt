use Rattle.checkcells.specs.Walk.{first_of, end_of}
use Prim.Native.Nat.{◌≤◌, ◌<◌}
use native.Mathlib.Omega.{arith}
use Rattle.checkcells.proofs.cells.judge.Goals as goal

pub returns-then-fits : goal.returns-then-fits
returns-then-fits c = let a = c.args in let f : first_of a.operands < 17592186044417 = c.requires.0 in let e : end_of a.operands ≤ 262656 = c.requires.1 in (rw (c.in_ok-x.was, ← c.fits.ensures, c.if-fits.true, c.out_width.ensures.0), omega (arith, c.out_width.ensures.1, rw c.in_ok-x.was at f), rw c.in_ok-x.was at e)

pub returns : goal.returns
returns c = (rw (c.in_ok-x.was, ← c.fits.ensures, c.if-fits.false), omega arith, omega arith)
