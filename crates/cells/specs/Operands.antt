-- Operands: what they read, and their bits with bit 0 first.
use Rattle.std.specs.Prelude.{ℕ, List, [], ◌∷◌, map, reverse, get_or}
use Rattle.ground.specs.Lists.{joined}
use Rattle.netlist.specs.Netlist.{Run, const, piece, Cell, cell_runs}
use Rattle.netlist.specs.Runs.{Bit, known, bit, operand_bits}

-- Document 01, Cells: "through pieces of width 1 or more, repeated at least once, whole cells counted": the rows that a run reads.
-- Every run that tables hold has a width.
abbrev pub run_reads : Run → List ℕ
run_reads (const ts) = []
run_reads (piece row o w) = row ∷ []

unfoldable pub cell_reads : Cell → List ℕ
cell_reads c = joined run_reads (cell_runs c)

-- A bit of an operand where each row's bits are given. It serves values and slots alike: a constant is its trit, and slots 0, 1, 2
-- hold 0, 1, X.
abbrev pub bit_from : (ℕ → List ℕ) → Bit → ℕ
bit_from rows (known t) = t
bit_from rows (bit row o) = get_or (rows row) o 0

-- bit 0 first: "The first part is the most significant"
unfoldable pub bits_from : (ℕ → List ℕ) → List Run → List ℕ
bits_from rows rs = reverse (map (bit_from rows) (operand_bits rs))
