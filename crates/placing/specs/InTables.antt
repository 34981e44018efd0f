-- What the words of tables say of the order of placing: a cell's row has 9 words, a run's row 3 (docs/LAYOUT.md).
use Rattle.std.specs.Prelude.{◌≡◌, Bool, true, ◌||◌, List, [], ◌∷◌, ◌++◌, ℕ, zero, suc, ◌+◌, ◌-◌, ◌*◌, ◌<◌, ◌≤◌, eqb, length, get_or}
use Rattle.ground.specs.Choice.{pick}
use Rattle.ground.specs.Regions.{zeros, pad}
use Rattle.graph.specs.Graph.{mem, order, left_out}
use Rattle.kinds.specs.Kinds.{input_kind, output_kind}
use Rattle.placing.specs.declared.Placed.{Placed}

-- a run's first word is 0 where it is a constant, else the row that it reads plus one
abbrev pub run_read : List ℕ → ℕ → List ℕ
run_read runs k = pick (eqb (get_or runs (k * 3) 0) 0) [] ((get_or runs (k * 3) 0 - 1) ∷ [])

-- the rows that c runs read, from run k on
unfoldable pub reads_from : List ℕ → ℕ → ℕ → List ℕ
reads_from runs k zero = []
reads_from runs k (suc c) = run_read runs k ++ reads_from runs (k + 1) c

-- a cell's first run, and how many runs its three operands have
abbrev pub first_run : List ℕ → ℕ → ℕ
first_run cells row = get_or cells (row * 9 + 5) 0

abbrev pub run_count : List ℕ → ℕ → ℕ
run_count cells row = get_or cells (row * 9 + 6) 0 + get_or cells (row * 9 + 7) 0 + get_or cells (row * 9 + 8) 0

unfoldable pub reads_in : List ℕ → List ℕ → ℕ → List ℕ
reads_in cells runs row = reads_from runs (first_run cells row) (run_count cells row)

-- inputs and outputs, which do not wait for their turn
unfoldable pub apart_in : List ℕ → ℕ → Bool
apart_in cells row = eqb (get_or cells (row * 9) 0) input_kind || eqb (get_or cells (row * 9) 0) output_kind

-- "the other cells, each time the lowest unplaced row whose cells are all placed", and 20: some cell is never placed
unfoldable pub order_in : List ℕ → List ℕ → ℕ → List ℕ
order_in cells runs n = order (reads_in cells runs) n (apart_in cells)

unfoldable pub ring_in : List ℕ → List ℕ → ℕ → Bool
ring_in cells runs n = left_out (reads_in cells runs) n (apart_in cells)

-- what good tables give: their lengths, runs inside the table, and reads of cells that are there
pub record Inside (cells runs : List ℕ) (n : ℕ) : Type 0 where
  pub cells_long : length cells ≡ 4608
  pub runs_long : length runs ≡ 12288
  pub few : n ≤ 512
  pub runs_there : (row : ℕ) → row < n → first_run cells row + run_count cells row ≤ 4096
  pub reads_there : (row j : ℕ) → row < n → mem j (reads_in cells runs row) ≡ true → j < n

-- a whole placing: the order at the front of the lent rows, the marks zero again
pub record PlacedAll (cells runs : List ℕ) (n : ℕ) (rows marks : List ℕ) (answer : Placed) : Type 0 where
  pub rows_are : rows ≡ pad 512 (order_in cells runs n)
  pub clear : marks ≡ zeros 1026
  pub count : answer.count ≡ length (order_in cells runs n)
  pub ring : answer.ring ≡ ring_in cells runs n
