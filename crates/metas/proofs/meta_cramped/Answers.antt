use Rattle.metas.proofs.MetaLaws.{meta_last_limit}
use Rattle.noting.proofs.Limits.{meta_many, meta_long, meta_wordy, meta_crowded}
use Prim.Native.Nat.{◌+◌, ◌<◌}
use lib.ListN.{length}
use native.Mathlib.Omega.{arith}
use Rattle.metas.proofs.meta_cramped.Goals as goal

pub returns-then-n-ge512 : goal.returns-then-n-ge512
returns-then-n-ge512 c = let a = c.args in λ text N m t s. rw (meta_many N m a.n t c.if-n-ge512.true)

pub returns-then-name-gt255 : goal.returns-then-name-gt255
returns-then-name-gt255 c = let a = c.args in λ text N m t s. let h : 255 < length m.name = omega (arith, c.if-name-gt255.true, s.name) in rw (meta_long N m a.n t h)

pub returns-then-second-gt255 : goal.returns-then-second-gt255
returns-then-second-gt255 c = let a = c.args in λ text N m t s. let h : 255 < length m.text = omega (arith, c.if-second-gt255.true, s.second) in rw (meta_wordy N m a.n t h)

pub returns-then-members-gt1024 : goal.returns-then-members-gt1024
returns-then-members-gt1024 c = let a = c.args in λ text N m t s. let h : 1024 < a.n.members + length m.members = omega (arith, c.if-members-gt1024.true, s.members) in rw (meta_crowded N m a.n t h)

pub returns-then-n-members-gt1024 : goal.returns-then-n-members-gt1024
returns-then-n-members-gt1024 c = let a = c.args in λ text N m t s. let h : 1024 < a.n.members + length m.members = omega (arith, c.if-n-members-gt1024.true, s.members) in rw (meta_crowded N m a.n t h)

pub returns : goal.returns
returns c = let a = c.args in λ text N m t s. meta_last_limit text a.row m s N a.n t (omega (arith, c.if-n-ge512.false)) (omega (arith, c.if-name-gt255.false)) (omega (arith, c.if-second-gt255.false)) (omega (arith, c.if-n-members-gt1024.false))
