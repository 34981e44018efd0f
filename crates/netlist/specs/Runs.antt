-- Longest runs. Document 01, Canonical text: "Operands are cut from the left into longest runs: constant bits, or falling
-- consecutive bits of one cell."
use Rattle.std.specs.Prelude.{ℕ, zero, suc, ◌+◌, Bool, true, false, ◌&&◌, List, [], ◌∷◌, eqb}
use Rattle.ground.specs.Choice.{pick}
use Rattle.ground.specs.Lists.{joined}
use Rattle.netlist.specs.Netlist.{Run, const, piece}

-- a bit of an operand: a trit, or a bit of a cell
pub data Bit : Type 0 where
  known : ℕ → Bit
  bit : ℕ → ℕ → Bit

-- the bits o+w-1 down to o of a cell
unfoldable pub falling : ℕ → ℕ → ℕ → List Bit
falling row o zero = []
falling row o (suc w) = bit row (o + w) ∷ falling row o w

unfoldable pub known_bits : List ℕ → List Bit
known_bits [] = []
known_bits (t ∷ ts) = known t ∷ known_bits ts

-- the bits of runs, the most significant first
abbrev pub run_bits : Run → List Bit
run_bits (const ts) = known_bits ts
run_bits (piece row o w) = falling row o w

abbrev pub operand_bits : List Run → List Bit
operand_bits rs = joined run_bits rs

-- a bit before runs that are cut: it begins the first of them if that goes on where the bit ends, else a run of its own
abbrev pub runs_with : Bit → List Run → List Run
runs_with (known t) [] = const (t ∷ []) ∷ []
runs_with (known t) (const ts ∷ rs) = const (t ∷ ts) ∷ rs
runs_with (known t) (piece row o w ∷ rs) = const (t ∷ []) ∷ piece row o w ∷ rs
runs_with (bit row o) [] = piece row o 1 ∷ []
runs_with (bit row o) (const ts ∷ rs) = piece row o 1 ∷ const ts ∷ rs
runs_with (bit row o) (piece row' o' w ∷ rs) =
    pick (eqb row row' && eqb o (o' + w)) (piece row' o' (w + 1) ∷ rs) (piece row o 1 ∷ piece row' o' w ∷ rs)

unfoldable pub cut : List Bit → List Run
cut [] = []
cut (b ∷ bs) = runs_with b (cut bs)

-- two neighbours that are one run
abbrev pub joins : Run → Run → Bool
joins (const ts) (const us) = true
joins (const ts) (piece row o w) = false
joins (piece row o w) (const ts) = false
joins (piece row o w) (piece row' o' w') = eqb row row' && eqb o (o' + w')

-- no two neighbours are one run
unfoldable pub longest : List Run → Bool
longest [] = true
longest (r ∷ []) = true
longest (r ∷ q ∷ rs) = elim (joins r q) [ true ↦ false | false ↦ longest (q ∷ rs) ]
