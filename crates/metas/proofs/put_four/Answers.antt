use lib.ListN.{length-set}
use native.Mathlib.Omega.{arith}
use mathlib.Core.Path.{◌≡◌}
use Prim.Native.Nat.{suc, ◌+◌}
use Rattle.metas.proofs.put_four.Goals as goal

pub bounds-metas-at-2 : goal.bounds-metas-at-2
bounds-metas-at-2 c = simp length-set (omega arith)

pub bounds-metas-at-3 : goal.bounds-metas-at-3
bounds-metas-at-3 c = simp length-set (omega arith)

pub bounds-metas-at-4 : goal.bounds-metas-at-4
bounds-metas-at-4 c = simp length-set (omega arith)

pub returns : goal.returns
returns c = let k = c.args.at in let a : k + 1 ≡ suc k = omega arith in let b : k + 2 ≡ suc (suc k) = omega arith in let d : k + 3 ≡ suc (suc (suc k)) = omega arith in rw (a, b, d)
