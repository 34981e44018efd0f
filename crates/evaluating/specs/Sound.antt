-- What the evaluation asks of the words of tables, and good ones have.
use Rattle.std.specs.Prelude.{ℕ, ◌*◌, ◌<◌, ◌≤◌, ◌≡◌, List, length, drop}
use Rattle.netlist.specs.Netlist.{Run}
use Rattle.assigning.specs.Rows.{width_in, input_in, rows_total}
use Rattle.valuing.specs.Row.{Narrow}
use Rattle.evaluating.specs.InTables.{outputs_in}

pub record TableSound (cells : List ℕ) (pool : List Run) (n : ℕ) : Type 0 where
  pub cells_long : length cells ≡ 4608
  pub few : n ≤ 512
  pub bits : rows_total width_in n cells ≤ 4096
  pub inputs : rows_total input_in n cells ≤ 4096
  pub narrow : (row : ℕ) → row < n → Narrow pool (drop (row * 9) cells)
  pub outputs : (held : ℕ → List ℕ) → length (outputs_in n cells pool held) ≤ 4096
