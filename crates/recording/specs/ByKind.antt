-- What the number of a kind tells of its records.
use Rattle.std.specs.Prelude.{ℕ, ◌-◌, min, Bool, ◌||◌, List, ltb, eqb, length}
use Rattle.ground.specs.Choice.{pick}
use Rattle.kinds.specs.Kinds.{not_kind, ult_kind, slt_kind}
use Rattle.cells.specs.Records.{Made, ult_made, slt_made}

-- the kinds without a record
unfoldable pub copied : ℕ → Bool
copied kind = ltb kind not_kind || ltb slt_kind kind

-- the number of bits that ult's rule goes over
unfoldable pub low_bits : ℕ → List ℕ → List ℕ → ℕ
low_bits kind a b = pick (eqb kind ult_kind) (min (length a) (length b)) (min (length a - 1) (length b))

-- ult, else slt: the same records but at the top place
unfoldable pub less_made : ℕ → ℕ → List ℕ → List ℕ → ℕ → Made
less_made kind = pick (eqb kind ult_kind) ult_made slt_made
