-- The evaluation by the words of tables: all bits lie in one list of values, those of a row from its start on.
use Rattle.std.specs.Prelude.{ℕ, zero, suc, List, [], ◌∷◌, ◌++◌, drop, get_or}
use Rattle.std.proofs.lemmas.List.Edits.{sets}
use Rattle.ground.specs.Regions.{zeros}
use Rattle.netlist.specs.Netlist.{Run}
use Rattle.cells.specs.Held.{held_bits}
use Rattle.placing.specs.Placing.{output_from}
use Rattle.assigning.specs.Rows.{starts_from, assigned_in}
use Rattle.valuing.specs.Row.{cell_of, row_value}

-- the values once these rows are worked out, one after the other
unfoldable pub settled_in : List ℕ → List ℕ → List Run → List ℕ → List ℕ → List ℕ
settled_in [] cells pool starts values = values
settled_in (row ∷ rows) cells pool starts values =
    settled_in rows cells pool starts (sets values (get_or starts row 0) (row_value cells pool starts values row))

-- the output bits of n rows
unfoldable pub outputs_in : ℕ → List ℕ → List Run → (ℕ → List ℕ) → List ℕ
outputs_in zero rows pool held = []
outputs_in (suc n) rows pool held = output_from held (cell_of pool rows) ++ outputs_in n (drop 9 rows) pool held

abbrev pub starts_in : List ℕ → ℕ → List ℕ
starts_in cells n = sets (zeros 512) 0 (starts_from 0 n cells)

abbrev pub values_in : List ℕ → List Run → ℕ → List ℕ → List ℕ → List ℕ
values_in cells pool n order ins = settled_in order cells pool (starts_in cells n) (assigned_in n cells ins 0 0 (zeros 4096))

-- THE EVALUATION in tables, where the order of placing is given
unfoldable pub evaluation_in : List ℕ → List Run → ℕ → List ℕ → List ℕ → List ℕ
evaluation_in cells pool n order ins = outputs_in n cells pool (held_bits (starts_in cells n) (values_in cells pool n order ins))
