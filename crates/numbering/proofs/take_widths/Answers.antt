use Prim.Native.Nat.{◌-◌}
use mathlib.Core.Path.{refl}
use native.Mathlib.Omega.{arith}
use lib.ListN.{length, length-set}
use Rattle.numbering.proofs.Laws.{widths_start, widths_turn, widths_end}
use Rattle.numbering.proofs.take_widths.Goals as goal

pub loop-i-init : goal.loop-i-init
loop-i-init c = (refl, widths_start _ _ _)

pub loop-i-preserved : goal.loop-i-preserved
loop-i-preserved c = let a = c.args in let p = c.loop-i in
    (simp length-set p.invariant.0, widths_turn a.rows.now p.widths a.widths.now (length a.widths.now) p.i (omega (arith, p.invariant.0, c.loop-i-test.true)) p.invariant.1)

pub shape_of-widths : goal.shape_of-widths
shape_of-widths c = c.loop-i.invariant.0

pub returns : goal.returns
returns c = let a = c.args in let p = c.loop-i in
    widths_end a.rows.now p.widths a.widths.now (length a.widths.now) p.i (omega (arith, p.invariant.0, c.loop-i-test.false)) refl p.invariant.1
