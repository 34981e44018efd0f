use mathlib.Core.Path.{◌∙◌}
use mathlib.Core.List.{◌++◌}
use native.Mathlib.Omega.{arith}
use Rattle.saying.specs.Values.{operand_runs}
use Rattle.laying.proofs.Counting.{laid_held, laid_trits, laid_runs, full_one, full_two, full_three, counted, bare_of_three}
use Rattle.cellruns.proofs.lay_cell.Goals as goal

pub returns-in_err-one : goal.returns-in_err-one
returns-in_err-one c =
    let a = c.args in
    let w = a.w in
    let f = rw c.in_err-one.was at c.lay_operand.ensures in
    rw c.from_residual.ensures (λ rs o. full_one rs (operand_runs a.text.now w.a) (operand_runs a.text.now w.b) (operand_runs a.text.now w.c) (f.0 rs o), tt)

pub lay_operand-requires-2 : goal.lay_operand-requires-2
lay_operand-requires-2 c =
    let a = c.args in
    let w = a.w in
    let h = c.requires.1 in
    let e1 = rw c.in_ok-one.was at c.lay_operand.ensures in
    let h1 = laid_held a.text.now w.a e1.0 h in
    let t1 = laid_trits a.text.now w.a e1.0 h in
    (c.requires.0, h1, c.requires.2.b, omega (arith, c.requires.2.all))

pub returns-in_err-two : goal.returns-in_err-two
returns-in_err-two c =
    let a = c.args in
    let w = a.w in
    let e1 = rw c.in_ok-one.was at c.lay_operand.ensures in
    let f = rw c.in_err-two.was at c.lay_operand-2.ensures in
    rw c.from_residual-in_err-two.ensures (λ rs o. full_two rs (operand_runs a.text.now w.a) (operand_runs a.text.now w.b) (operand_runs a.text.now w.c) (f.0 (rs ++ operand_runs a.text.now w.a) (e1.0 rs o)), tt)

pub lay_operand-requires-3 : goal.lay_operand-requires-3
lay_operand-requires-3 c =
    let a = c.args in
    let w = a.w in
    let h = c.requires.1 in
    let e1 = rw c.in_ok-one.was at c.lay_operand.ensures in
    let h1 = laid_held a.text.now w.a e1.0 h in
    let t1 = laid_trits a.text.now w.a e1.0 h in
    let e2 = rw c.in_ok-two.was at c.lay_operand-2.ensures in
    let h2 = laid_held a.text.now w.b e2.0 h1 in
    let t2 = laid_trits a.text.now w.b e2.0 h1 in
    (c.requires.0, h2, c.requires.2.c, omega (arith, c.requires.2.all))

pub returns-in_err-all : goal.returns-in_err-all
returns-in_err-all c =
    let a = c.args in
    let w = a.w in
    let e1 = rw c.in_ok-one.was at c.lay_operand.ensures in
    let e2 = rw c.in_ok-two.was at c.lay_operand-2.ensures in
    let f = rw c.in_err-all.was at c.lay_operand-3.ensures in
    rw c.from_residual-in_err-all.ensures (λ rs o. full_three rs (operand_runs a.text.now w.a) (operand_runs a.text.now w.b) (operand_runs a.text.now w.c) (f.0 ((rs ++ operand_runs a.text.now w.a) ++ operand_runs a.text.now w.b) (e2.0 (rs ++ operand_runs a.text.now w.a) (e1.0 rs o))), tt)

pub overflow_sub-result : goal.overflow_sub-result
overflow_sub-result c =
    let a = c.args in
    let w = a.w in
    let h = c.requires.1 in
    let e1 = rw c.in_ok-one.was at c.lay_operand.ensures in
    let n1 = laid_runs a.text.now w.a e1.0 h in
    omega arith

pub overflow_sub-result-2 : goal.overflow_sub-result-2
overflow_sub-result-2 c =
    let a = c.args in
    let w = a.w in
    let h = c.requires.1 in
    let e1 = rw c.in_ok-one.was at c.lay_operand.ensures in
    let h1 = laid_held a.text.now w.a e1.0 h in
    let e2 = rw c.in_ok-two.was at c.lay_operand-2.ensures in
    let n2 = laid_runs a.text.now w.b e2.0 h1 in
    omega arith

pub overflow_sub-result-3 : goal.overflow_sub-result-3
overflow_sub-result-3 c =
    let a = c.args in
    let w = a.w in
    let h = c.requires.1 in
    let e1 = rw c.in_ok-one.was at c.lay_operand.ensures in
    let h1 = laid_held a.text.now w.a e1.0 h in
    let e2 = rw c.in_ok-two.was at c.lay_operand-2.ensures in
    let h2 = laid_held a.text.now w.b e2.0 h1 in
    let e3 = rw c.in_ok-all.was at c.lay_operand-3.ensures in
    let n3 = laid_runs a.text.now w.c e3.0 h2 in
    omega arith

pub shape_of-runs : goal.shape_of-runs
shape_of-runs c = omega (arith, c.lay_operand.auto, c.lay_operand-2.auto, c.lay_operand-3.auto)

pub shape_of-trits : goal.shape_of-trits
shape_of-trits c = omega (arith, c.lay_operand.auto, c.lay_operand-2.auto, c.lay_operand-3.auto)

pub returns : goal.returns
returns c =
    let a = c.args in
    let w = a.w in
    let h = c.requires.1 in
    let e1 = rw c.in_ok-one.was at c.lay_operand.ensures in
    let h1 = laid_held a.text.now w.a e1.0 h in
    let n1 = laid_runs a.text.now w.a e1.0 h in
    let e2 = rw c.in_ok-two.was at c.lay_operand-2.ensures in
    let h2 = laid_held a.text.now w.b e2.0 h1 in
    let n2 = laid_runs a.text.now w.b e2.0 h1 in
    let e3 = rw c.in_ok-all.was at c.lay_operand-3.ensures in
    let n3 = laid_runs a.text.now w.c e3.0 h2 in
    (λ rs o. counted rs (operand_runs a.text.now w.a) (operand_runs a.text.now w.b) (operand_runs a.text.now w.c) _ (omega arith) (omega arith) (omega arith) (e3.0 ((rs ++ operand_runs a.text.now w.a) ++ operand_runs a.text.now w.b) (e2.0 (rs ++ operand_runs a.text.now w.a) (e1.0 rs o))), c.any_bare.ensures ∙ bare_of_three e1.1 e2.1 e3.1)
