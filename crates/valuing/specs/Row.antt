-- A cell's row of tables, worked out: all bits lie in one list of values, those of a row from its start on.
use Rattle.std.specs.Prelude.{ℕ, ◌+◌, ◌-◌, ◌*◌, ◌<◌, ◌≤◌, ◌≡◌, List, [], length, drop, get_or, take}
use Rattle.std.proofs.lemmas.List.Edits.{sets}
use Rattle.netlist.specs.Netlist.{Run, Cell, operand_width}
use Rattle.netlist.specs.Tables.{Tables}
use Rattle.netlist.specs.View.{cell_in}
use Rattle.cells.specs.Held.{held_bits}
use Rattle.cells.specs.Values.{cell_value}
use Rattle.assigning.specs.Rows.{width_in}

-- tables of which nothing is known: a cell's row and the runs say all but its name
abbrev pub unnamed : Tables
unnamed = record { meta_count = 0; io_count = 0; cell_count = 0; metas = []; members = []; ios = []; cells = []; runs = []; strings = []; attr_bits = []; run_bits = [] }

-- the cell that a row says, by the runs of the table
abbrev pub cell_of : List Run → List ℕ → Cell
cell_of pool row = cell_in unnamed pool row

-- the value of a row, within the row's width
abbrev pub row_value : List ℕ → List Run → List ℕ → List ℕ → ℕ → List ℕ
row_value cells pool starts values row =
    take (width_in (drop (row * 9) cells)) (cell_value (held_bits starts values) (cell_of pool (drop (row * 9) cells)))

-- operands of 256 bits at most
pub record Narrow (pool : List Run) (row : List ℕ) : Type 0 where
  pub a : operand_width (cell_of pool row).a ≤ 256
  pub b : operand_width (cell_of pool row).b ≤ 256
  pub c : operand_width (cell_of pool row).c ≤ 256

-- a row that can be worked out: its bits have their place
pub record RowSound (cells : List ℕ) (pool : List Run) (starts : List ℕ) (row : ℕ) : Type 0 where
  pub cells_long : length cells ≡ 4608
  pub starts_long : length starts ≡ 512
  pub below : row < 512
  pub room : get_or starts row 0 + width_in (drop (row * 9) cells) ≤ 4096
  pub narrow : Narrow pool (drop (row * 9) cells)

-- values with a value written at its place, as far as that goes
pub record Placed (old : List ℕ) (start end : ℕ) (value new : List ℕ) : Type 0 where
  pub is : new ≡ sets old start (take (end - start) value)

-- values with a value written where the row's bits begin, within the row's width
pub record Valued (cells starts : List ℕ) (row : ℕ) (old value new : List ℕ) : Type 0 where
  pub is : new ≡ sets old (get_or starts row 0) (take (width_in (drop (row * 9) cells)) value)
