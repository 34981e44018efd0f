use Rattle.noting.proofs.IoNotes.{io_last_limit}
use Rattle.noting.proofs.Limits.{io_many, io_long}
use Prim.Native.Nat.{◌<◌, ◌≤◌}
use lib.ListN.{length}
use native.Mathlib.Omega.{arith}
use Rattle.ionotes.proofs.io_cramped.Goals as goal

pub returns-then-n-ge64 : goal.returns-then-n-ge64
returns-then-n-ge64 c = let a = c.args in λ N i t e. rw (io_many N i a.n t c.if-n-ge64.true)

pub returns-then-size-gt255 : goal.returns-then-size-gt255
returns-then-size-gt255 c = let a = c.args in λ N i t e. let h : 255 < length i.name = omega (arith, c.if-size-gt255.true) in rw (io_long N i a.n t h)

pub returns : goal.returns
returns c = let a = c.args in λ N i t e. let h : length i.name ≤ 255 = omega (arith, c.if-size-gt255.false) in rw e (io_last_limit N i a.n t (omega (arith, c.if-n-ge64.false)) h)
