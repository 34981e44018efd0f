use Rattle.resolving.specs.Resolving.{row_resolves}
use Rattle.resolving.proofs.RunsFound.{rows_on, rows_stop, rows_none}
use mathlib.Core.Path.{◌≡◌, sym, ◌∙◌}
use mathlib.Core.Bool.{Bool}
use mathlib.Core.List.{List}
use Prim.Native.Nat.{ℕ, ◌+◌, ◌-◌, ◌*◌}
use native.Mathlib.Omega.{arith}
use lib.ListN.{drop, get_or}
use Rattle.resolving.proofs.runs_resolve.Goals as goal

-- what a row that is asked answers, however its place was reckoned
asked : {k : ℕ} (map cells runs : List ℕ) (i : ℕ) (r b : Bool) → r ≡ row_resolves map cells (get_or runs k 0) (get_or runs (k + 1) 0) (get_or runs (k + 2) 0) → r ≡ b → i * 3 ≡ k
    → row_resolves map cells (get_or runs (i * 3) 0) (get_or runs (i * 3 + 1) 0) (get_or runs (i * 3 + 2) 0) ≡ b
asked map cells runs i r b h t e = rw e (sym h ∙ t)

pub loop-i-init : goal.loop-i-init
loop-i-init c = (omega arith, let z : c.args.n - 0 ≡ c.args.n = omega arith in rw z)

pub loop-i-preserved : goal.loop-i-preserved
loop-i-preserved c = let a = c.args in let l = c.loop-i in
    (omega arith, rows_on a.map.now a.cells.now a.runs.now a.n l.i c.loop-i-test.true (asked a.map.now a.cells.now a.runs.now l.i _ _ c.run_resolves.ensures c.if-not-run_resolves.false (omega arith)) ∙ l.invariant.1)

pub returns-then-not-run_resolves : goal.returns-then-not-run_resolves
returns-then-not-run_resolves c = let a = c.args in let l = c.loop-i in
    rows_stop a.map.now a.cells.now a.runs.now a.n l.i c.loop-i-test.true (asked a.map.now a.cells.now a.runs.now l.i _ _ c.run_resolves.ensures c.if-not-run_resolves.true (omega arith)) ∙ l.invariant.1

pub returns : goal.returns
returns c = let a = c.args in let l = c.loop-i in
    rows_none a.map.now a.cells.now (drop (l.i * 3) a.runs.now) (a.n - l.i) (let h = c.loop-i-test.false in omega arith) ∙ l.invariant.1
