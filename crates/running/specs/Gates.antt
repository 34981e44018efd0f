-- What the operations above 4 make of two slots; an output's slot is a copy of the first.
use Rattle.std.specs.Prelude.{ℕ, eqb}
use Rattle.ground.specs.Choice.{pick}
use Rattle.trit.specs.Trit.{and_of, or_of, xor_of}
use Rattle.loadlist.specs.Records.{and_op, or_op, xor_op}

abbrev pub gate_of : ℕ → ℕ → ℕ → ℕ
gate_of op x y = pick (eqb op and_op) (and_of x y) (pick (eqb op or_op) (or_of x y) (pick (eqb op xor_op) (xor_of x y) x))
