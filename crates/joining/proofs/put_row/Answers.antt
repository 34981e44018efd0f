use Prim.Native.Nat.{suc, ◌+◌}
use mathlib.Core.Path.{◌≡◌}
use native.Mathlib.Omega.{arith}
use lib.ListN.{length-set}
use Rattle.joining.proofs.put_row.Goals as goal

pub bounds-runs-at-2 : goal.bounds-runs-at-2
bounds-runs-at-2 c = simp length-set (omega arith)

pub bounds-runs-at-3 : goal.bounds-runs-at-3
bounds-runs-at-3 c = simp length-set (omega arith)

pub returns : goal.returns
returns c = let a : c.args.at + 1 ≡ suc c.args.at = omega arith in let b : c.args.at + 2 ≡ suc (suc c.args.at) = omega arith in rw (a, b)
