use mathlib.Core.Path.{◌≡◌}
use Prim.Native.Nat.{suc, ◌+◌}
use lib.ListN.{length-set}
use native.Mathlib.Omega.{arith}
use Rattle.wiring.proofs.put_three.Goals as goal

pub bounds-table-at-2 : goal.bounds-table-at-2
bounds-table-at-2 c = simp length-set (omega arith)

pub bounds-table-at-3 : goal.bounds-table-at-3
bounds-table-at-3 c = simp length-set (omega arith)

pub returns : goal.returns
returns c = let a : c.args.at + 1 ≡ suc c.args.at = omega arith in let b : c.args.at + 2 ≡ suc (suc c.args.at) = omega arith in rw (a, b)
