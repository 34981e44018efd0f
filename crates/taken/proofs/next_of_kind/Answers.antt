use Prim.Native.Nat.{◌-◌}
use mathlib.Core.Path.{refl}
use native.Mathlib.Omega.{arith}
use Rattle.asking.proofs.NameLaws.{passes_none, passes_more}
use Rattle.taken.proofs.next_of_kind.Goals as goal

pub loop-i-init : goal.loop-i-init
loop-i-init c = let a = c.args in (omega arith, c.requires.0, refl, passes_none a.kind a.n a.row a.cells.now)

pub bounds-cells-at : goal.bounds-cells-at
bounds-cells-at c = omega (arith, c.loop-i.invariant.2, c.loop-i-test.true, c.requires.1)

pub returns-then-cells-at : goal.returns-then-cells-at
returns-then-cells-at c = let p = c in (p.loop-i.invariant.0, p.loop-i.invariant.1, p.loop-i.invariant.3)

pub loop-i-preserved : goal.loop-i-preserved
loop-i-preserved c =
    let p = c in
    let a = p.args in
    let e = p.loop-i.invariant.2 in (
      omega (arith, p.loop-i.invariant.0),
      omega (arith, c.loop-i-test.true),
      omega (arith, e),
      passes_more a.kind a.n a.row p.loop-i.i a.cells.now c.loop-i-test.true (rw e at c.if-cells-at.false) p.loop-i.invariant.3,
    )

pub returns : goal.returns
returns c = let p = c in (p.loop-i.invariant.0, p.loop-i.invariant.1, p.loop-i.invariant.3)
