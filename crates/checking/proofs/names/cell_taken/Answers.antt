use Prim.Native.Nat.{◌*◌}
use native.Mathlib.Omega.{arith}
use mathlib.Core.Path.{refl, sym, ◌∙◌}
use lib.ListN.{drop}
use Rattle.checking.proofs.Laws.{cell_hit, cell_miss, cell_none}
use Rattle.checking.proofs.names.cell_taken.Goals as goal

pub loop-i-init : goal.loop-i-init
loop-i-init c = (c.requires.0, refl)

pub cell_named-requires : goal.cell_named-requires
cell_named-requires c = let p = c.loop-i in (omega (arith, c.requires.1.long, c.loop-i-test.true), c.requires.1.each p.i c.loop-i-test.true)

pub returns-then-cell_named : goal.returns-then-cell_named
returns-then-cell_named c = let a = c.args in let p = c.loop-i in cell_hit a.strings.now a.kind a.n p.i a.cells.now c.loop-i-test.true a.name.now (sym c.if-cell_named.true ∙ c.cell_named.ensures) ∙ p.invariant.1

pub loop-i-preserved : goal.loop-i-preserved
loop-i-preserved c = let a = c.args in let p = c.loop-i in (omega arith, cell_miss a.strings.now a.kind a.n p.i a.cells.now c.loop-i-test.true a.name.now (sym c.if-cell_named.false ∙ c.cell_named.ensures) ∙ p.invariant.1)

pub returns : goal.returns
returns c = let a = c.args in let p = c.loop-i in cell_none a.strings.now a.kind a.n p.i (drop (p.i * 9) a.cells.now) a.name.now c.loop-i-test.false ∙ p.invariant.1
