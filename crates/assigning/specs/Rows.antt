-- What rows of cells say of their bits, by the words of a table: nine words a row, the kind first, then the width.
use Rattle.std.specs.Prelude.{ℕ, zero, suc, ◌+◌, ◌<◌, List, [], ◌∷◌, eqb, drop, get_or}
use Rattle.std.proofs.lemmas.List.Edits.{sets}
use Rattle.ground.specs.Choice.{pick}
use Rattle.ground.specs.Regions.{part}
use Rattle.kinds.specs.Kinds.{input_kind}

abbrev pub width_in : List ℕ → ℕ
width_in row = get_or row 1 0

-- the input bits of a row
abbrev pub input_in : List ℕ → ℕ
input_in row = pick (eqb (get_or row 0 0) input_kind) (get_or row 1 0) 0

-- a sum over n rows
unfoldable pub rows_total : (List ℕ → ℕ) → ℕ → List ℕ → ℕ
rows_total f zero rows = 0
rows_total f (suc n) rows = f rows + rows_total f n (drop 9 rows)

-- where the bits of each of n rows begin, if they lie one behind the other from s on
unfoldable pub starts_from : ℕ → ℕ → List ℕ → List ℕ
starts_from s zero rows = []
starts_from s (suc n) rows = s ∷ starts_from (s + width_in rows) n (drop 9 rows)

-- Document 01, Load list: "input bits by row, bit 0 first": each input's bits are written where its row's bits begin
unfoldable pub assigned_in : ℕ → List ℕ → List ℕ → ℕ → ℕ → List ℕ → List ℕ
assigned_in zero rows ins s at values = values
assigned_in (suc n) rows ins s at values =
    assigned_in n (drop 9 rows) ins (s + width_in rows) (at + input_in rows) (sets values s (part at (input_in rows) ins))
