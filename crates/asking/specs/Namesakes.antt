-- Names among noted rows. A row has the place in the text of its name and the number of bytes that the name means; an empty name
-- stands at no place.
use Rattle.std.specs.Prelude.{◌≡◌, Bool, true, false, List, ℕ, zero, suc, ◌-◌, ◌*◌, eqb, length, drop, get_or}
use Rattle.ground.specs.Choice.{pick}
use Rattle.ground.specs.Lists.{joined}
use Rattle.ground.specs.Regions.{pad}
use Rattle.ground.specs.Text.{same}
use Rattle.signs.specs.Pieces.{decoded}
use Rattle.saying.specs.Notes.{IoNote, CellNote, io_note, cell_note, SpellIos, SpellCells}

-- whether the same byte stands at two places of the text, one that means itself
abbrev pub same_raw : List ℕ → ℕ → ℕ → Bool
same_raw text i j = pick (eqb (get_or text i 0) 92) false (eqb (get_or text i 0) (get_or text j 0))

-- whether one of the first n rows, of w words each, passes the test of a row
unfoldable pub some_row : ℕ → (List ℕ → Bool) → ℕ → List ℕ → Bool
some_row w test zero rows = false
some_row w test (suc n) rows = elim (test rows) [ true ↦ true | false ↦ some_row w test n (drop w rows) ]

-- whether a noted name of `long` bytes at a place is the name of `size` bytes from a place on
abbrev pub namesake : List ℕ → ℕ → ℕ → ℕ → ℕ → Bool
namesake text from size at long =
    pick (eqb long size) (pick (eqb size 0) true (same (decoded text from) (decoded text at))) false

unfoldable pub io_namesake : List ℕ → ℕ → ℕ → List ℕ → Bool
io_namesake text from size row = namesake text from size (get_or row 0 0) (get_or row 1 0)

-- among the cells of one kind
unfoldable pub cell_namesake : List ℕ → ℕ → ℕ → ℕ → List ℕ → Bool
cell_namesake text kind from size row =
    pick (eqb (get_or row 0 0) kind) (namesake text from size (get_or row 2 0) (get_or row 3 0)) false

-- a noted string: unless it is empty, it means as many bytes as noted
pub record Sized (text : List ℕ) (at size : ℕ) : Type 0 where
  pub is : (size ≡ 0 → ⊥) → size ≡ length (decoded text at)

-- a table whose first n rows are notes of I/O, their names spelled in the text
pub record IosNoted (text ios : List ℕ) (n : ℕ) : Type 0 where
  pub notes : List IoNote
  pub rows : ios ≡ pad 192 (joined io_note notes)
  pub count : n ≡ length notes
  pub names : SpellIos text notes

-- the same of cells
pub record CellsNoted (text cells : List ℕ) (n : ℕ) : Type 0 where
  pub notes : List CellNote
  pub rows : cells ≡ pad 4608 (joined cell_note notes)
  pub count : n ≡ length notes
  pub names : SpellCells text notes

-- a name that none of the first n rows has, where it is called fresh
pub record FreshIo (text ios : List ℕ) (n from size : ℕ) (fresh : Bool) : Type 0 where
  pub none : fresh ≡ true → some_row 3 (io_namesake text from size) n ios ≡ false

pub record FreshCell (text cells : List ℕ) (n kind from size : ℕ) (fresh : Bool) : Type 0 where
  pub none : fresh ≡ true → some_row 9 (cell_namesake text kind from size) n cells ≡ false

-- no cell of the kind stands in the rows between: those from the row r on find what those from `row` on find
pub record Passes (kind n row r : ℕ) (cells : List ℕ) : Type 0 where
  pub finds : (text : List ℕ) (from size : ℕ) → some_row 9 (cell_namesake text kind from size) (n - r) (drop (r * 9) cells) ≡ some_row 9 (cell_namesake text kind from size) (n - row) (drop (row * 9) cells)
