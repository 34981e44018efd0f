use Rattle.wiring.proofs.CellTight.{tight_last}
use Rattle.wiring.proofs.CellTight.{out_most}
use native.Mathlib.Omega.{arith}
use Rattle.wiring.specs.CellAdding.{tight}
use Rattle.ground.proofs.Tests.{tests}
use Rattle.wiring.proofs.is_tight.Goals as goal

pub returns-then-n-ge512 : goal.returns-then-n-ge512
unfolding tight
returns-then-n-ge512 c = search tests

pub returns-then-n-w-gt4096 : goal.returns-then-n-w-gt4096
unfolding tight
returns-then-n-w-gt4096 c = search tests

pub overflow_add-n-2 : goal.overflow_add-n-2
overflow_add-n-2 c = let a = c.args in omega (arith, c.output_bits.ensures, out_most a.w c.requires.3)

pub returns-then-n-output_bits-gt4096 : goal.returns-then-n-output_bits-gt4096
unfolding tight
returns-then-n-output_bits-gt4096 c = search (tests, ← c.output_bits.ensures)

pub returns-then-size-gt255 : goal.returns-then-size-gt255
unfolding tight
returns-then-size-gt255 c = search (tests, ← c.name_size-size.ensures, ← c.output_bits.ensures)

pub returns : goal.returns
unfolding tight
returns c = let s = c in tight_last s.args.n s.args.w _ _ c.output_bits.ensures c.name_size-size.ensures c.if-n-ge512.false c.if-n-w-gt4096.false c.if-n-output_bits-gt4096.false c.if-size-gt255.false
