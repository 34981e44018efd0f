use Prim.Native.Nat.{◌-◌}
use mathlib.Core.Path.{refl}
use native.Mathlib.Omega.{arith}
use lib.ListN.{length-set}
use Rattle.numbering.proofs.Laws.{numbers_turn, numbers_end, taken_few}
use Rattle.numbering.proofs.number_cells.Goals as goal

pub loop-i-init : goal.loop-i-init
loop-i-init c = (refl, omega arith, refl)

pub overflow_add-number : goal.overflow_add-number
overflow_add-number c = omega (arith, c.loop-i.invariant.1, c.requires.1, c.loop-i-test.true, taken_few c.args.widths.now c.requires.2 c.loop-i.i _ c.loop-i-test.true c.taken_by-number.ensures)

pub loop-i-preserved : goal.loop-i-preserved
loop-i-preserved c = let a = c.args in let p = c.loop-i in
    (simp length-set p.invariant.0, omega (arith, p.invariant.1, taken_few c.args.widths.now c.requires.2 c.loop-i.i _ c.loop-i-test.true c.taken_by-number.ensures), numbers_turn a.widths.now p.numbers a.numbers.now p.number p.i c.taken_by-number.result c.loop-i-test.true c.taken_by-number.ensures p.invariant.2)

pub shape_of-numbers : goal.shape_of-numbers
shape_of-numbers c = c.loop-i.invariant.0

pub returns : goal.returns
returns c = let a = c.args in let p = c.loop-i in
    numbers_end a.widths.now p.numbers a.numbers.now p.number p.i c.loop-i-test.false c.requires.0 p.invariant.2
