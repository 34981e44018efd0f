-- The cells that a table shows, row by row.
use Prim.Native.Nat.{ℕ, zero, suc, ◌+◌, ◌*◌, ◌<◌, ◌≤◌}
use mathlib.Core.Path.{◌≡◌, refl, sym, ap, ◌∙◌}
use mathlib.Core.List.{List, [], ◌∷◌}
use native.Mathlib.Omega.{arith}
use lib.ListN.{length, drop, take, get_or}
use lib.Seq.{drop-drop}
use Rattle.ground.specs.Lists.{total}
use Rattle.netlist.specs.Netlist.{Run, Cell}
use Rattle.netlist.specs.Tables.{Tables}
use Rattle.netlist.specs.View.{cell_in, cells_in}
use Rattle.assigning.specs.Rows.{rows_total}

module _ (T : Tables) (pool : List Run) where
  pub cells_length : (n : ℕ) (rows : List ℕ) → length (cells_in T pool n rows) ≡ n
  unfolding cells_in
  cells_length zero rows = refl
  cells_length (suc n) rows = ap suc (cells_length n (drop 9 rows))

  pub cells_at : (n : ℕ) (rows : List ℕ) (d : Cell) (j : ℕ) → j < n → get_or (cells_in T pool n rows) j d ≡ cell_in T pool (drop (j * 9) rows)
  unfolding cells_in
  cells_at zero rows d j h = absurd (omega arith)
  cells_at (suc n) rows d zero h = refl
  cells_at (suc n) rows d (suc j) h =
      let m : suc j * 9 ≡ 9 + j * 9 = omega arith in
      cells_at n (drop 9 rows) d j (omega arith) ∙ ap (cell_in T pool) (drop-drop (j * 9) 9 rows ∙ ap (λ (k : ℕ). drop k rows) (sym m))

  pub cells_front : (n : ℕ) (rows : List ℕ) (j : ℕ) → j ≤ n → take j (cells_in T pool n rows) ≡ cells_in T pool j rows
  unfolding cells_in
  cells_front n rows zero h = refl
  cells_front zero rows (suc j) h = absurd (omega arith)
  cells_front (suc n) rows (suc j) h = ap (λ (l : List Cell). cell_in T pool rows ∷ l) (cells_front n (drop 9 rows) j (omega arith))

  -- a sum over cells is the sum over their rows
  pub cells_total : (f : Cell → ℕ) (g : List ℕ → ℕ) → ((row : List ℕ) → f (cell_in T pool row) ≡ g row) → (n : ℕ) (rows : List ℕ) → total f (cells_in T pool n rows) ≡ rows_total g n rows
  unfolding cells_in total rows_total
  cells_total f g h zero rows = refl
  cells_total f g h (suc n) rows = omega (arith, h rows, cells_total f g h n (drop 9 rows))
