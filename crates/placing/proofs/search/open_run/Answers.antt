use Rattle.placing.proofs.Seeking.{run_placed, run_open}
use Rattle.placing.specs.Marks.{first_open}
use Prim.Native.Nat.{◌*◌}
use native.Mathlib.Omega.{arith}
use Rattle.ground.proofs.Tests.{tests}
use Rattle.placing.proofs.search.open_run.Goals as goal

pub overflow_cast-word : goal.overflow_cast-word
overflow_cast-word c = omega (arith, c.shared_slice_known-1.given (c.args.k * 3))

pub returns-then-word-eq0 : goal.returns-then-word-eq0
unfolding first_open
returns-then-word-eq0 c = search tests

pub returns-then-marks-row-eq1 : goal.returns-then-marks-row-eq1
unfolding first_open
returns-then-marks-row-eq1 c = let a = c.args in run_placed a.runs.now a.marks.now a.n a.k c.if-word-eq0.false c.if-marks-row-eq1.true

pub returns : goal.returns
unfolding first_open
returns c = let a = c.args in run_open a.runs.now a.marks.now a.n a.k c.if-word-eq0.false c.if-marks-row-eq1.false
