-- The names in the rows, for rule 9.
use Rattle.std.specs.Prelude.{true, false, List, [], ◌∷◌, ℕ, zero, suc, ◌+◌, ◌*◌, ◌<◌, ◌≤◌, eqb, length, drop}
use Rattle.ground.specs.Regions.{part}
use Rattle.netlist.specs.View.{word}

abbrev pub io_name : List ℕ → List ℕ → List ℕ
io_name strings row = part (word row 0) (word row 1) strings

unfoldable pub io_names_in : List ℕ → ℕ → List ℕ → List (List ℕ)
io_names_in strings zero rows = []
io_names_in strings (suc n) rows = io_name strings rows ∷ io_names_in strings n (drop 3 rows)

abbrev pub cell_name : List ℕ → List ℕ → List ℕ
cell_name strings row = part (word row 2) (word row 3) strings

-- of the cells of one kind
unfoldable pub cell_names_in : List ℕ → ℕ → ℕ → List ℕ → List (List ℕ)
cell_names_in strings kind zero rows = []
cell_names_in strings kind (suc n) rows =
    elim (eqb (word rows 0) kind) [
      | true ↦ cell_name strings rows ∷ cell_names_in strings kind n (drop 9 rows)
      | false ↦ cell_names_in strings kind n (drop 9 rows)
    ]

-- the names of n rows are there
pub record IosNamed (strings : List ℕ) (n : ℕ) (rows : List ℕ) : Type 0 where
  pub long : n * 3 ≤ length rows
  pub each : (i : ℕ) → i < n → word (drop (i * 3) rows) 0 + word (drop (i * 3) rows) 1 ≤ length strings

pub record CellsNamed (strings : List ℕ) (n : ℕ) (rows : List ℕ) : Type 0 where
  pub long : n * 9 ≤ length rows
  pub each : (i : ℕ) → i < n → word (drop (i * 9) rows) 2 + word (drop (i * 9) rows) 3 ≤ length strings
