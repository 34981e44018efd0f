use Prim.Native.Nat.{◌-◌}
use mathlib.Core.Path.{refl, ◌∙◌}
use native.Mathlib.Omega.{arith}
use Rattle.writing.proofs.Stands.{start, then}
use Rattle.operands.proofs.Runs.{slice_three, slice_row, runs_turn, runs_end}
use Prim.Native.Nat.{◌*◌}
use borrow.Author.Rules.{rules}
use Rattle.operands.proofs.put_more_runs.Goals as goal

pub loop-i-init : goal.loop-i-init
loop-i-init c = (refl, start _ _ _)

pub put_run-n-requires : goal.put_run-n-requires
put_run-n-requires c = let a = c in let i = c.loop-i.i in
    (slice_three a.args.rows.now (i * 3) (omega (arith, c.loop-i-test.true)), a.requires.1)

pub loop-i-preserved : goal.loop-i-preserved
loop-i-preserved c = let p = c in (
  c.put_run-n.auto.room ∙ (c.put-m.auto.room ∙ p.loop-i.invariant.0),
  runs_turn _ _ _ _ _ _ _ p.loop-i.invariant.1 c.loop-i-test.true (search rules) (slice_row c.args.rows.now (p.loop-i.i * 3)) (then c.put-m.ensures c.put_run-n.ensures),
)

pub returns : goal.returns
returns c = runs_end _ _ _ _ _ _ c.loop-i.invariant.1 c.loop-i-test.false
