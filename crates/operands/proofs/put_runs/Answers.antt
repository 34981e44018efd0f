use Rattle.writing.proofs.Stands.{then, same_text, nothing}
use native.Mathlib.Omega.{arith}
use Rattle.operands.proofs.Runs.{slice_three, slice_row, some_runs, none_runs}
use Prim.Native.Nat.{◌*◌}
use borrow.Author.Rules.{rules}
use Rattle.operands.proofs.put_runs.Goals as goal

pub put_run-m-requires : goal.put_run-m-requires
put_run-m-requires c = let a = c in
    (slice_three a.args.rows.now (a.args.start * 3) (omega (arith, c.if-start-end.true)), a.requires.1)

pub returns-then-start-end : goal.returns-then-start-end
returns-then-start-end c = let a = c.args in same_text (then c.put_run-m.ensures c.put_more_runs.ensures) (some_runs _ _ _ _ _ _ _ c.if-start-end.true (search rules) (slice_row a.rows.now (a.start * 3)))

pub returns : goal.returns
returns c = same_text (nothing _ _) (none_runs _ _ _ _ _ _ c.if-start-end.false)
