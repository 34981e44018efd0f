use native.Mathlib.Omega.{arith}
use Rattle.cellvalues.proofs.ByKind.{value_two, value_mux, value_adc, value_compare, value_other}
use Rattle.cellvalues.proofs.value.put_value.Goals as goal

pub returns-then-kind-lt8 : goal.returns-then-kind-lt8
returns-then-kind-lt8 c =
    let a = c.args in
    rw (← value_two a.kind a.a.now a.b.now a.c.now c.if-kind-lt8.true) c.put_bitwise.ensures

pub returns-then-kind-eq8 : goal.returns-then-kind-eq8
returns-then-kind-eq8 c =
    let a = c.args in
    rw (value_mux a.kind a.a.now a.b.now a.c.now c.if-kind-eq8.true) (rw c.first.ensures at c.put_mux.ensures)

pub returns-then-kind-eq9 : goal.returns-then-kind-eq9
returns-then-kind-eq9 c =
    let a = c.args in
    rw (value_adc a.kind a.a.now a.b.now a.c.now c.if-kind-eq9.true) (rw c.first-then-kind-eq9.ensures at c.put_adc.ensures)

pub returns-then-kind-lt13 : goal.returns-then-kind-lt13
returns-then-kind-lt13 c =
    let a = c.args in
    rw (value_compare a.kind a.a.now a.b.now a.c.now (omega (arith, c.if-kind-eq9.false, c.if-kind-eq8.false, c.if-kind-lt8.false)) c.if-kind-lt13.true) c.put_compare.ensures

pub returns : goal.returns
returns c =
    let a = c.args in
    rw (value_other a.kind a.a.now a.b.now a.c.now c.if-kind-lt13.false) c.copy.ensures
