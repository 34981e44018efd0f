use mathlib.Core.Path.{refl, ◌∙◌}
use Prim.Native.Nat.{◌-◌}
use native.Mathlib.Omega.{arith}
use Rattle.blanks.proofs.past_bytes.Goals as goal

pub returns-then-size-from : goal.returns-then-size-from
returns-then-size-from c = refl

pub loop-i-init : goal.loop-i-init
loop-i-init c = (c.if-size-from.false, refl)

pub returns-then-bytes_ahead-ne0 : goal.returns-then-bytes_ahead-ne0
returns-then-bytes_ahead-ne0 c = c.loop-i.invariant.1

pub loop-i-preserved : goal.loop-i-preserved
loop-i-preserved c = let p = c.loop-i in (omega arith, c.bytes_ahead.ensures c.if-bytes_ahead-ne0.false ∙ p.invariant.1)

pub returns : goal.returns
returns c = c.loop-i.invariant.1
