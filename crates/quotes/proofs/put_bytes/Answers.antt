use Prim.Native.Nat.{◌-◌}
use mathlib.Core.Path.{refl, ◌∙◌}
use native.Mathlib.Omega.{arith}
use Rattle.writing.proofs.Stands.{start, same_rest}
use Rattle.writing.proofs.Parts.{up_start, bytes_turn, bytes_end}
use Rattle.quotes.proofs.put_bytes.Goals as goal

pub loop-i-init : goal.loop-i-init
loop-i-init c = let e = c.wide-start.ensures.0 in
    (refl, omega (arith, c.end_of-end.ensures), same_rest (start _ _ _) (λ k. rw (e, up_start _ _ _ _ (rw e at c.end_of-end.ensures))))

pub loop-i-preserved : goal.loop-i-preserved
loop-i-preserved c = let p = c in
    (c.put_byte-n.auto.room ∙ p.loop-i.invariant.0, p.loop-i.invariant.1, bytes_turn _ _ _ p.loop-i.invariant.2 c.loop-i-test.true p.loop-i.invariant.1 c.put_byte-n.ensures)

pub returns : goal.returns
returns c = bytes_end _ _ _ c.loop-i.invariant.2 c.loop-i-test.false
