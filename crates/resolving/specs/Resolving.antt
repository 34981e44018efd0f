-- Resolving by the tables: the map of cell numbers, and the widths in the cell rows.
use Rattle.std.specs.Prelude.{◌≡◌, ℕ, zero, suc, ◌+◌, ◌-◌, ◌*◌, ◌<◌, ◌≤◌, Bool, true, false, not, ◌&&◌, List, [], ◌∷◌, map, leb, ltb, eqb, length, drop, get_or, Option, Some, None}
use Rattle.std.proofs.Math.Option.{Option as Found, none, some}
use Rattle.ground.specs.Choice.{pick}
use Rattle.ground.specs.Lists.{every}
use Rattle.ground.specs.Regions.{pad}
use Rattle.ground.specs.declared.Place.{Place}
use Rattle.brackets.specs.declared.Piece.{Piece}
use Rattle.brackets.specs.declared.Base.{Base}
use Rattle.brackets.specs.declared.Base.TheVariants as base
use Rattle.brackets.specs.declared.Operand.{Operand}
use Rattle.netlist.specs.Netlist.{Run, const, piece}
use Rattle.netlist.specs.Tables.{run_rows}
use Rattle.saying.specs.Values.{row_of, row_run}
use Rattle.brackets.specs.Parts.{PartAt, parts_at}
use Rattle.saying.specs.Pieces.{base_in}
use Rattle.saying.specs.Notes.{Maps}

-- NUMBERS TO ROWS
abbrev pub row_word : List ℕ → ℕ → ℕ
row_word numbered head = pick (eqb head 0) 0 (get_or numbered (head - 1) 0)

-- a run whose cell is declared
abbrev pub is_declared : List ℕ → Run → Bool
is_declared numbers (const ts) = true
is_declared numbers (piece n o w) = ltb n 65536 && leb 1 (row_of numbers n)

pub record Numbered (numbers : List ℕ) (rs : List Run) (runs : List ℕ) (n : ℕ) : Type 0 where
  pub rows : runs ≡ pad 12288 (run_rows 0 rs)
  pub count : length rs ≡ n
  pub few : n ≤ 4096
  pub declared : every (is_declared numbers) rs ≡ true

pub record RunsNumbered (runs : List ℕ) (n : ℕ) : Type 0 where
  pub long : length runs ≡ 12288
  pub few : n ≤ 4096

abbrev pub RowsRuns : List ℕ → ℕ → List ℕ → List ℕ → Type 0
RowsRuns numbered n runs runs' =
    (numbers : List ℕ) (rs : List Run) → Maps numbers numbered → Numbered numbers rs runs n → runs' ≡ pad 12288 (run_rows 0 (map (row_run numbers) rs))

-- RULE 14. The cells' widths stand in the cell rows.
pub record Looks (numbers widths numbered cells : List ℕ) : Type 0 where
  pub maps : Maps numbers numbered
  pub count : length numbers ≡ length widths
  pub width : (i : ℕ) → i < length widths → get_or cells (i * 9 + 1) 0 ≡ get_or widths i 0

abbrev pub resolves_in : List ℕ → List ℕ → Piece → Bool
resolves_in numbered cells p =
    leb 1 (get_or numbered p.cell 0) && leb (p.offset + p.width) (get_or cells ((get_or numbered p.cell 0 - 1) * 9 + 1) 0)

-- a run row of these words resolves
abbrev pub row_resolves : List ℕ → List ℕ → ℕ → ℕ → ℕ → Bool
row_resolves numbered cells head from width =
    pick (eqb head 0) true (resolves_in numbered cells (record { cell = head - 1; offset = from; width = width }))

-- .. and each of n rows
unfoldable pub rows_resolve : List ℕ → List ℕ → ℕ → List ℕ → Bool
rows_resolve numbered cells zero rows = true
rows_resolve numbered cells (suc n) rows = elim (row_resolves numbered cells (get_or rows 0 0) (get_or rows 1 0) (get_or rows 2 0)) [
  | true ↦ rows_resolve numbered cells n (drop 3 rows)
  | false ↦ false
]

-- whether what a part repeats is a piece that does not resolve
abbrev pub base_lost : List ℕ → List ℕ → Base → Bool
base_lost numbered cells (base.Constant s) = false
base_lost numbered cells (base.Cell p) = not (resolves_in numbered cells p)

abbrev pub lost_at : Found Place → Option Place
lost_at none = None
lost_at (some p) = Some p

-- the first part of a list that does not resolve
unfoldable pub lost_from : List ℕ → List ℕ → List PartAt → Option Place
lost_from numbered cells [] = None
lost_from numbered cells (p ∷ ps) = elim (base_lost numbered cells (base_in p.part)) [ true ↦ Some p.place | false ↦ lost_from numbered cells ps ]

-- the operand that a word of the work space tells
abbrev pub operand_of : ℕ → Operand
operand_of word = record { given = not (eqb word 0); at = word - 1; width = 0 }

-- .. and over the operands that n words tell
unfoldable pub lost_of : List ℕ → List ℕ → List ℕ → ℕ → List ℕ → Option Place
lost_of text numbered cells zero places = None
lost_of text numbered cells (suc n) places = elim (lost_from numbered cells (parts_at text (operand_of (get_or places 0 0)))) [
  | Some p ↦ Some p
  | None ↦ lost_of text numbered cells n (drop 1 places)
]
