-- The order of a netlist's cells, and rings. 20: "ring".
use Rattle.std.specs.Prelude.{ℕ, Bool, ◌||◌, List, [], eqb, length, get_or, take}
use Rattle.ground.specs.Choice.{pick}
use Rattle.ground.specs.Lists.{total, joined}
use Rattle.graph.specs.Graph.{Ring, order, left_out}
use Rattle.kinds.specs.Kinds.{input_kind, output_kind}
use Rattle.netlist.specs.Netlist.{Cell, Netlist}
use Rattle.cells.specs.Operands.{cell_reads, bits_from}

abbrev pub no_cell : Cell
no_cell = record { kind = 0; width = 0; name = []; meta = 0; a = []; b = []; c = [] }

abbrev pub cell_at : Netlist → ℕ → Cell
cell_at N row = get_or N.cells row no_cell

abbrev pub reads_of : Netlist → ℕ → List ℕ
reads_of N row = cell_reads (cell_at N row)

-- Document 01, Cells: "A ring: a cell reached from itself"
abbrev pub Ringed : Netlist → Type 0
Ringed N = Ring (reads_of N) (length N.cells)

-- Document 01, Load list: "input bits by row, bit 0 first"; where a row's bits begin among all input bits
abbrev pub input_width : Cell → ℕ
input_width c = pick (eqb c.kind input_kind) c.width 0

abbrev pub input_start : Netlist → ℕ → ℕ
input_start N row = total input_width (take row N.cells)

abbrev pub input_bits : Netlist → ℕ
input_bits N = total input_width N.cells

-- "output bits by row", where each row's bits, or their slots, are given
abbrev pub output_from : (ℕ → List ℕ) → Cell → List ℕ
output_from rows c = pick (eqb c.kind output_kind) (bits_from rows c.a) []

unfoldable pub outputs_from : (ℕ → List ℕ) → Netlist → List ℕ
outputs_from rows N = joined (output_from rows) N.cells

-- inputs come first and outputs last: neither waits for its turn among "the other cells"
abbrev pub apart : Netlist → ℕ → Bool
apart N row = eqb (cell_at N row).kind input_kind || eqb (cell_at N row).kind output_kind

-- Document 01, Load list: "the other cells, each time the lowest unplaced row whose cells are all placed"
unfoldable pub placing_of : Netlist → List ℕ
placing_of N = order (reads_of N) (length N.cells) (apart N)

-- 20: some cell is never placed, which is so exactly where a ring is
unfoldable pub ringed : Netlist → Bool
ringed N = left_out (reads_of N) (length N.cells) (apart N)
