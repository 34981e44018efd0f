use mathlib.Core.List.{[]}
use native.Mathlib.Omega.{arith}
use Rattle.cellvalues.proofs.ByKind.{value_copied, value_not, value_gate}
use Rattle.cellvalues.proofs.value.put_bitwise.Goals as goal

pub returns-then-kind-lt4 : goal.returns-then-kind-lt4
returns-then-kind-lt4 c =
    let a = c.args in
    rw (value_copied a.kind a.a.now a.b.now [] c.if-kind-lt4.true) c.copy.ensures

pub returns-then-kind-eq4 : goal.returns-then-kind-eq4
returns-then-kind-eq4 c =
    let a = c.args in
    rw (value_not a.kind a.a.now a.b.now [] c.if-kind-eq4.true) c.put_not.ensures

pub returns : goal.returns
returns c =
    let a = c.args in
    rw (value_gate a.kind a.a.now a.b.now [] (omega (arith, c.if-kind-eq4.false, c.if-kind-lt4.false)) c.requires) c.put_gate.ensures
