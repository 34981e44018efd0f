use Rattle.resolving.proofs.Numbers.{runs_start, runs_more, runs_end}
use lib.ListN.{length-set}
use native.Mathlib.Omega.{arith}
use mathlib.Core.Path.{sym, ◌∙◌}
use Prim.Native.Nat.{◌-◌}
use Rattle.rowruns.proofs.row_runs.Goals as goal

pub loop-i-init : goal.loop-i-init
loop-i-init c = let a = c.args in (omega arith, c.requires.long, λ numbers rs m d. runs_start numbers rs a.runs.now a.n d)

pub overflow_mul-k : goal.overflow_mul-k
overflow_mul-k c = let few = c.requires.few in omega (arith, few)

pub bounds-runs-k : goal.bounds-runs-k
bounds-runs-k c = let few = c.requires.few in let long = c.loop-i.invariant.1 in omega (arith, few, long)

pub bounds-runs-k-in-loop-i : goal.bounds-runs-k-in-loop-i
bounds-runs-k-in-loop-i c = let few = c.requires.few in let long = c.loop-i.invariant.1 in omega (arith, few, long)

pub loop-i-preserved : goal.loop-i-preserved
loop-i-preserved c = let l = c.loop-i in
    (omega arith, length-set l.runs _ _ ∙ l.invariant.1, λ numbers rs m d. rw c.row_word-head.ensures (runs_more numbers _ m c.args.n l.i l.runs _ (l.invariant.2 numbers rs m d) c.loop-i-test.true))

pub shape_of-runs : goal.shape_of-runs
shape_of-runs c = c.loop-i.invariant.1 ∙ sym c.requires.long

pub returns : goal.returns
returns c = let l = c.loop-i in λ numbers rs m d. runs_end numbers c.args.n l.i l.runs _ c.loop-i-test.false (l.invariant.2 numbers rs m d)
