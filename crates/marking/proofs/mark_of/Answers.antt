use mathlib.Core.Path.{sym, ap, ◌∙◌}
use Prim.Native.Nat.{ℕ, ◌+◌, ◌-◌, ◌≤◌}
use native.Mathlib.Omega.{arith}
use lib.ListN.{length}
use Rattle.marking.specs.Marks.{mark_from, mark_of}
use Rattle.marking.proofs.Laws.{mark_four}
use Rattle.marking.proofs.mark_of.Goals as goal

pub loop-i-init : goal.loop-i-init
unfolding mark_of
loop-i-init c = (omega arith, ap (λ (m : ℕ). mark_from m c.args.name.now) c.mark_kind-mark.ensures)

pub loop-i-preserved : goal.loop-i-preserved
loop-i-preserved c = let p = c in let a = c.args in let h : p.loop-i.i + 4 ≤ length a.name.now = omega arith in (h, (rw (sym c.mark_four-mark.ensures) at (mark_four a.name.now p.loop-i.mark p.loop-i.i h)) ∙ p.loop-i.invariant.1)

pub returns : goal.returns
returns c = c.mark_rest.ensures ∙ c.loop-i.invariant.1
