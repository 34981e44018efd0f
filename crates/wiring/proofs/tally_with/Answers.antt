use Rattle.wiring.proofs.CellTight.{out_most}
use native.Mathlib.Omega.{arith}
use Rattle.wiring.proofs.tally_with.Goals as goal

pub overflow_add-result-3 : goal.overflow_add-result-3
overflow_add-result-3 c = let s = c in omega (arith, c.output_bits.ensures, out_most s.args.w s.requires.4)

pub returns : goal.returns
returns c = rw (c.either.ensures, c.name_size.ensures, c.output_bits.ensures)
