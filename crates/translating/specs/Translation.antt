-- The translation. Document 01, Load list: "A translation is: constants 0, 1, X; input bits by row, bit 0 first; the other cells, each
-- time the lowest unplaced row whose cells are all placed; output bits by row."
use Rattle.std.specs.Prelude.{ℕ, ◌+◌, List, [], ◌∷◌, ◌++◌, length}
use Rattle.ground.specs.Lists.{total, up_from, updated}
use Rattle.kinds.specs.Kinds.{kind_at}
use Rattle.netlist.specs.Netlist.{Cell, Netlist, operand_width}
use Rattle.loadlist.specs.Records.{rec, input_op, output_op}
use Rattle.loadlist.specs.declared.Record.{Record}
use Rattle.cells.specs.Operands.{bits_from}
use Rattle.cells.specs.Records.{Made, kind_made}
use Rattle.placing.specs.Placing.{cell_at, input_width, input_start, input_bits, outputs_from, placing_of}

-- the slots of each row's bits, bit 0 first
abbrev pub Slots : Type 0
Slots = ℕ → List ℕ

abbrev pub constants : List Record
constants = rec 0 0 0 ∷ rec 1 0 0 ∷ rec 2 0 0 ∷ []

-- INPUTS
unfoldable pub input_records : List ℕ → List Record
input_records [] = []
input_records (i ∷ is) = rec input_op i 0 ∷ input_records is

-- the slots of an input row stand behind the constants and the earlier inputs
unfoldable pub input_slots : Netlist → Slots
input_slots N row = up_from (3 + input_start N row) (input_width (cell_at N row))

-- THE OTHER CELLS in their order: their records from slot k on, and then the slots of all rows
abbrev pub cell_made : Netlist → ℕ → ℕ → Slots → Made
cell_made N row k slots =
    kind_made (cell_at N row).kind k (bits_from slots (cell_at N row).a) (bits_from slots (cell_at N row).b) (bits_from slots (cell_at N row).c)

unfoldable pub cell_records : List ℕ → Netlist → ℕ → Slots → List Record
cell_records [] N k slots = []
cell_records (row ∷ rows) N k slots =
    let m = cell_made N row k slots in
    m.records ++ cell_records rows N (k + length m.records) (updated slots row m.outs)

unfoldable pub cell_slots : List ℕ → Netlist → ℕ → Slots → Slots
cell_slots [] N k slots = slots
cell_slots (row ∷ rows) N k slots =
    let m = cell_made N row k slots in
    cell_slots rows N (k + length m.records) (updated slots row m.outs)

-- OUTPUTS: output bit number j on
unfoldable pub output_records : List ℕ → ℕ → List Record
output_records [] j = []
output_records (x ∷ xs) j = rec output_op x j ∷ output_records xs (j + 1)

abbrev pub slots_of : Netlist → Slots
slots_of N = cell_slots (placing_of N) N (3 + input_bits N) (input_slots N)

-- THE TRANSLATION
unfoldable pub translation : Netlist → List Record
translation N =
    constants
    ++ (input_records (up_from 0 (input_bits N))
    ++ (cell_records (placing_of N) N (3 + input_bits N) (input_slots N)
    ++ output_records (outputs_from (slots_of N) N) 0))

-- "The number of records is told, and equals 3 plus the table's sum"
abbrev pub cell_sum : Cell → ℕ
cell_sum c = (kind_at c.kind).records c.width (operand_width c.a)

unfoldable pub record_sum : Netlist → ℕ
record_sum N = 3 + total cell_sum N.cells
