-- What a kind picks of the rules that share a form: the gate of two bits, the comparison of two operands.
use Rattle.std.specs.Prelude.{ℕ, List, eqb}
use Rattle.ground.specs.Choice.{pick}
use Rattle.kinds.specs.Kinds.{and_kind, or_kind, eq_kind, ult_kind}
use Rattle.trit.specs.Trit.{and_of, or_of, xor_of}
use Rattle.trit.specs.Wide.{eq_bit, ult_bit, slt_bit}

-- and, or, else xor
unfoldable pub gate_of : ℕ → ℕ → ℕ → ℕ
gate_of kind = pick (eqb kind and_kind) and_of (pick (eqb kind or_kind) or_of xor_of)

-- eq, ult, else slt
unfoldable pub compare_bit : ℕ → List ℕ → List ℕ → ℕ
compare_bit kind = pick (eqb kind eq_kind) eq_bit (pick (eqb kind ult_kind) ult_bit slt_bit)
