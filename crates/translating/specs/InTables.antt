-- The translation by the words of tables: the slots of all bits lie in one list, those of a row from its start on.
use Rattle.std.specs.Prelude.{ℕ, ◌+◌, ◌*◌, List, [], ◌∷◌, ◌++◌, length, drop, get_or}
use Rattle.std.proofs.lemmas.List.Edits.{sets}
use Rattle.ground.specs.Lists.{up_from}
use Rattle.ground.specs.Regions.{zeros}
use Rattle.netlist.specs.Netlist.{Run, Cell}
use Rattle.loadlist.specs.declared.Record.{Record}
use Rattle.cells.specs.Held.{held_bits}
use Rattle.cells.specs.Operands.{bits_from}
use Rattle.cells.specs.Records.{Made, kind_made}
use Rattle.assigning.specs.Rows.{input_in, rows_total, assigned_in}
use Rattle.valuing.specs.Row.{cell_of}
use Rattle.evaluating.specs.InTables.{outputs_in, starts_in}
use Rattle.translating.specs.Translation.{constants, input_records, output_records, cell_sum}

-- the number of a row's records
unfoldable pub row_sum : List Run → List ℕ → ℕ
row_sum pool row = cell_sum (cell_of pool row)

-- what a cell makes from slot k on, where each row's slots are given
unfoldable pub made_from : (ℕ → List ℕ) → Cell → ℕ → Made
made_from held c k = kind_made c.kind k (bits_from held c.a) (bits_from held c.b) (bits_from held c.c)

abbrev pub row_made : List ℕ → List Run → List ℕ → List ℕ → ℕ → ℕ → Made
row_made cells pool starts slots row k = made_from (held_bits starts slots) (cell_of pool (drop (row * 9) cells)) k

-- the records of these rows, one after the other, and then the slots
unfoldable pub records_in : List ℕ → List ℕ → List Run → List ℕ → ℕ → List ℕ → List Record
records_in [] cells pool starts k slots = []
records_in (row ∷ rows) cells pool starts k slots =
    let m = row_made cells pool starts slots row k in
    m.records ++ records_in rows cells pool starts (k + length m.records) (sets slots (get_or starts row 0) m.outs)

unfoldable pub slots_in : List ℕ → List ℕ → List Run → List ℕ → ℕ → List ℕ → List ℕ
slots_in [] cells pool starts k slots = slots
slots_in (row ∷ rows) cells pool starts k slots =
    let m = row_made cells pool starts slots row k in
    slots_in rows cells pool starts (k + length m.records) (sets slots (get_or starts row 0) m.outs)

-- the slots of the inputs: the first is slot 3
abbrev pub first_slots : List ℕ → ℕ → List ℕ
first_slots cells n = assigned_in n cells (up_from 3 (rows_total input_in n cells)) 0 0 (zeros 4096)

abbrev pub row_records : List ℕ → List Run → ℕ → List ℕ → List Record
row_records cells pool n order = records_in order cells pool (starts_in cells n) (3 + rows_total input_in n cells) (first_slots cells n)

abbrev pub row_slots : List ℕ → List Run → ℕ → List ℕ → List ℕ
row_slots cells pool n order = slots_in order cells pool (starts_in cells n) (3 + rows_total input_in n cells) (first_slots cells n)

abbrev pub last_slots : List ℕ → List Run → ℕ → List ℕ → List ℕ
last_slots cells pool n order = outputs_in n cells pool (held_bits (starts_in cells n) (row_slots cells pool n order))

-- THE TRANSLATION in tables, where the order of placing is given
unfoldable pub translation_in : List ℕ → List Run → ℕ → List ℕ → List Record
translation_in cells pool n order =
    constants
    ++ (input_records (up_from 0 (rows_total input_in n cells))
    ++ (row_records cells pool n order ++ output_records (last_slots cells pool n order) 0))
