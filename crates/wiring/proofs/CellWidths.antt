-- The runs of an operand are as wide as its parts.
-- Assumes nothing.
use mathlib.Core.Path.{◌≡◌, ◌∙◌}
use mathlib.Core.List.{List}
use Prim.Native.Nat.{ℕ, ◌≤◌}
use native.Mathlib.Omega.{arith}
use lib.ListN.{length}
use Rattle.brackets.specs.Parts.{parts_at}
use Rattle.brackets.specs.declared.Operand.{Operand}
use Rattle.brackets.proofs.Sums.{widths}
use Rattle.netlist.specs.Netlist.{operand_width, run_bits_of}
use Rattle.saying.specs.Values.{operand_runs}
use Rattle.laying.proofs.Inside.{operand_in}
use Rattle.laying.proofs.Melding.{cut_wide, cut_trits}
use Rattle.laying.proofs.Turning.{bits_of, bits_wide}

pub operand_wide : (text : List ℕ) (o : Operand) → operand_width (operand_runs text o) ≡ widths (parts_at text o)
unfolding operand_runs
operand_wide text o = cut_wide (bits_of text (parts_at text o)) ∙ bits_wide text (operand_in text o)
