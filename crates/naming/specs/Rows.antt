-- Full names by the rows of lent tables: what the writer of a name reads, and what it asks of the rows, which good tables have.
use Rattle.std.specs.Prelude.{ℕ, zero, suc, ◌+◌, ◌-◌, ◌*◌, ◌<◌, ◌≤◌, ◌≡◌, Bool, true, false, not, ◌&&◌, List, ◌∷◌, ◌++◌, ltb, eqb, length, get_or, Err}
use Rattle.ground.specs.Choice.{pick}
use Rattle.ground.specs.Refusals.{at, refusal}
use Rattle.ground.specs.Regions.{part}
use Rattle.netlist.specs.Netlist.{indexed_meta, ident_meta}
use Rattle.writing.specs.Decimal.{signed}
use Rattle.naming.specs.Names.{Outcome, made, given}

-- a word of a row; a row has 16
abbrev pub field_at : List ℕ → ℕ → ℕ → ℕ
field_at metas row i = get_or metas (row * 16 + i) 0

-- the parent's row plus one, 0 where there is none
abbrev pub parent_at : List ℕ → ℕ → ℕ
parent_at metas row = field_at metas row 9

abbrev pub own_at : List ℕ → List ℕ → ℕ → List ℕ
own_at metas strings row =
    pick (eqb (field_at metas row 0) indexed_meta) (signed (field_at metas row 11)) (part (field_at metas row 1) (field_at metas row 2) strings)

unfoldable pub name_at : ℕ → List ℕ → List ℕ → ℕ → List ℕ
name_at zero metas strings row = own_at metas strings row
name_at (suc f) metas strings row = elim (eqb (parent_at metas row) 0) [
  | true ↦ own_at metas strings row
  | false ↦ name_at f metas strings (parent_at metas row - 1) ++ (47 ∷ own_at metas strings row)
]

abbrev pub ident_at : ℕ → List ℕ → ℕ → Bool
ident_at count metas row = ltb row count && eqb (field_at metas row 0) ident_meta

-- rows of which each has an earlier one as its parent, or none
pub record Rising (count : ℕ) (metas : List ℕ) : Type 0 where
  pub size : length metas ≡ 8192
  pub few : count ≤ 512
  pub earlier : (i : ℕ) → i < count → parent_at metas i ≤ i

-- 16, then 24
unfoldable pub asked : ℕ → List ℕ → List ℕ → ℕ → List ℕ → Outcome
asked count metas strings row room =
    pick (not (ident_at count metas row)) (made (Err (refusal 16 (at 0))) room) (given (name_at row metas strings row) room)
