use Prim.Native.Nat.{◌-◌, ◌*◌}
use native.Mathlib.Omega.{arith}
use mathlib.Core.Path.{◌≡◌, sym, ◌∙◌}
use lib.ListN.{drop}
use lib.Seq.{get_or-drop}
use Rattle.checking.specs.Parts.{strings_alone}
use Rattle.checking.proofs.Top.{found_here, found_later, found_none}
use Rattle.checking.proofs.find_io.Goals as goal

pub loop-i-init : goal.loop-i-init
loop-i-init c = let a = c.args in (omega arith, let e : a.n - 0 ≡ a.n = omega arith in rw e)

pub io_named-requires : goal.io_named-requires
io_named-requires c = let p = c.loop-i in (omega (arith, c.requires.long, c.loop-i-test.true), c.requires.each p.i c.loop-i-test.true)

pub returns-then-io_named : goal.returns-then-io_named
returns-then-io_named c = let a = c.args in let p = c.loop-i in (rw get_or-drop at (found_here (strings_alone a.strings.now) a.n p.i a.ios.now a.name.now c.loop-i-test.true (sym c.if-io_named.true ∙ c.io_named.ensures))) ∙ p.invariant.1

pub loop-i-preserved : goal.loop-i-preserved
loop-i-preserved c = let a = c.args in let p = c.loop-i in (omega arith, found_later (strings_alone a.strings.now) a.n p.i a.ios.now a.name.now c.loop-i-test.true (sym c.if-io_named.false ∙ c.io_named.ensures) ∙ p.invariant.1)

pub returns : goal.returns
returns c = let a = c.args in let p = c.loop-i in rw c.refused.ensures (found_none (strings_alone a.strings.now) a.n p.i (drop (p.i * 3) a.ios.now) a.name.now c.loop-i-test.false ∙ p.invariant.1)
