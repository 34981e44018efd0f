-- What the translation asks of the words of tables, and good ones have.
use Rattle.std.specs.Prelude.{ℕ, ◌+◌, ◌*◌, ◌<◌, ◌≤◌, ◌≡◌, true, false, List, length, take, drop, get_or}
use Rattle.std.proofs.lemmas.List.Edits.{sets}
use Rattle.netlist.specs.Netlist.{Run}
use Rattle.loadlist.specs.Records.{list_bytes}
use Rattle.loadlist.specs.declared.Record.{Record}
use Rattle.graph.specs.Graph.{mem}
use Rattle.cells.specs.Held.{held_runs}
use Rattle.placing.specs.InTables.{Inside, order_in, ring_in}
use Rattle.assigning.specs.Rows.{rows_total}
use Rattle.valuing.specs.Row.{cell_of, Narrow}
use Rattle.evaluating.specs.InTables.{starts_in}
use Rattle.evaluating.specs.Sound.{TableSound}
use Rattle.translating.specs.InTables.{row_sum, made_from, translation_in}

-- a row that can be made: its operands are narrow, and its bits have their place, whatever the slots
pub record RowSound (cells : List ℕ) (pool : List Run) (starts : List ℕ) (row : ℕ) : Type 0 where
  pub cells_long : length cells ≡ 4608
  pub starts_long : length starts ≡ 512
  pub below : row < 512
  pub narrow : Narrow pool (drop (row * 9) cells)
  pub room : (held : ℕ → List ℕ) (k : ℕ) → get_or starts row 0 + length (made_from held (cell_of pool (drop (row * 9) cells)) k).outs ≤ 4096

-- room for these records from record k on
pub record Roomy (list : List ℕ) (k : ℕ) (rs : List Record) : Type 0 where
  pub slots : k + length rs ≤ 8192
  pub bytes : 8 * (k + length rs) ≤ length list

-- the records are written from record k on, and `next` is the record behind them
pub record Listed (old : List ℕ) (k : ℕ) (rs : List Record) (next : ℕ) (new : List ℕ) : Type 0 where
  pub is : new ≡ sets old (8 * k) (list_bytes rs)
  pub next_is : next ≡ k + length rs

-- an order whose rows can be made, and whose records are as many as the table's sum
pub record OrderSound (cells : List ℕ) (pool : List Run) (n : ℕ) (order : List ℕ) (count : ℕ) : Type 0 where
  pub table : TableSound cells pool n
  pub fits : count ≤ length order
  pub rows : (i : ℕ) → i < count → RowSound cells pool (starts_in cells n) (get_or order i 0)
  pub sum : length (translation_in cells pool n (take count order)) ≡ 3 + rows_total (row_sum pool) n cells

-- the same of the order of placing, where there is no ring
pub record Sound (cells runs trits : List ℕ) (n : ℕ) : Type 0 where
  pub table : TableSound cells (held_runs runs trits) n
  pub inside : Inside cells runs n
  pub rows : (row : ℕ) → mem row (order_in cells runs n) ≡ true → RowSound cells (held_runs runs trits) (starts_in cells n) row
  pub sum : ring_in cells runs n ≡ false → length (translation_in cells (held_runs runs trits) n (order_in cells runs n)) ≡ 3 + rows_total (row_sum (held_runs runs trits)) n cells
