use lib.ListN.{length-set}
use native.Mathlib.Omega.{arith}
use mathlib.Core.Path.{◌≡◌}
use Prim.Native.Nat.{suc, ◌+◌, ◌*◌}
use Rattle.ionotes.proofs.put_io.Goals as goal

pub bounds-ios-at-2 : goal.bounds-ios-at-2
bounds-ios-at-2 c = simp length-set (omega arith)

pub bounds-ios-at-3 : goal.bounds-ios-at-3
bounds-ios-at-3 c = simp length-set (omega arith)

pub returns : goal.returns
returns c = let k = c.args.n * 3 in let a : k + 1 ≡ suc k = omega arith in let b : k + 2 ≡ suc (suc k) = omega arith in rw (a, b)
