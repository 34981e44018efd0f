use Prim.Native.Nat.{◌-◌}
use mathlib.Core.Path.{sym, ◌∙◌}
use native.Mathlib.Omega.{arith}
use Rattle.asking.specs.Namesakes.{io_namesake}
use Rattle.asking.proofs.RowLaws.{rows_start, row_hit, row_miss, rows_end}
use Rattle.asking.proofs.NameLaws.{io_row, io_found}
use Rattle.taken.proofs.io_found.Goals as goal

pub loop-i-init : goal.loop-i-init
loop-i-init c = let a = c.args in (omega arith, rows_start 3 (io_namesake a.text.now a.from a.size) a.n a.ios.now)

pub io_named-requires : goal.io_named-requires
io_named-requires c = let p = c in let r = io_row p.requires.0 c.loop-i.i c.loop-i-test.true in (r.0, p.requires.1, r.1)

pub returns-then-io_named : goal.returns-then-io_named
returns-then-io_named c = let p = c in let q = p in let a = q.args in λ ns r l s. row_hit 3 (io_namesake a.text.now a.from a.size) a.n p.loop-i.i a.ios.now c.loop-i-test.true (sym c.if-io_named.true ∙ c.io_named.ensures) ∙ p.loop-i.invariant.1 ∙ io_found a.text.now a.ios.now a.n a.from a.size q.requires.1 ns r l s

pub loop-i-preserved : goal.loop-i-preserved
loop-i-preserved c = let p = c in let q = p in let a = q.args in (omega arith, row_miss 3 (io_namesake a.text.now a.from a.size) a.n p.loop-i.i a.ios.now c.loop-i-test.true (sym c.if-io_named.false ∙ c.io_named.ensures) ∙ p.loop-i.invariant.1)

pub returns : goal.returns
returns c = let p = c in let q = p in let a = q.args in λ ns r l s. rows_end 3 (io_namesake a.text.now a.from a.size) a.n p.loop-i.i a.ios.now c.loop-i-test.false ∙ p.loop-i.invariant.1 ∙ io_found a.text.now a.ios.now a.n a.from a.size q.requires.1 ns r l s
