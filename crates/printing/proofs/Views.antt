-- What the entry point of printing needs: rows are read by the pools that they name alone.
use Prim.Native.Nat.{ℕ, zero, suc}
use mathlib.Core.Path.{◌≡◌, refl, ap}
use mathlib.Core.List.{List, [], ◌∷◌}
use lib.ListN.{drop}
use Rattle.netlist.specs.Netlist.{Run, Meta, Io, Cell}
use Rattle.netlist.specs.Tables.{Tables}
use Rattle.netlist.specs.View.{meta_in, metas_in, io_in, ios_in, run_in, runs_in, cell_in, cells_in}
use Rattle.operands.specs.Operands.{holding}
use Rattle.celllines.specs.CellLines.{naming}
use Rattle.lines.specs.Pools.{pools}

module _ (T : Tables) where
  pub metas_by_pools : (n : ℕ) (rows : List ℕ) → metas_in T n rows ≡ metas_in (pools T.strings T.members T.attr_bits) n rows
  unfolding metas_in
  metas_by_pools zero rows = refl
  metas_by_pools (suc n) rows = ap (λ (l : List Meta). meta_in T rows ∷ l) (metas_by_pools n (drop 16 rows))

  pub ios_by_pools : (n : ℕ) (rows : List ℕ) → ios_in T n rows ≡ ios_in (pools T.strings [] []) n rows
  unfolding ios_in
  ios_by_pools zero rows = refl
  ios_by_pools (suc n) rows = ap (λ (l : List Io). io_in T rows ∷ l) (ios_by_pools n (drop 3 rows))

  pub runs_by_trits : (n : ℕ) (rows : List ℕ) → runs_in T n rows ≡ runs_in (holding T.run_bits) n rows
  unfolding runs_in
  runs_by_trits zero rows = refl
  runs_by_trits (suc n) rows = ap (λ (l : List Run). run_in T rows ∷ l) (runs_by_trits n (drop 3 rows))

  pub cells_by_strings : (pool : List Run) (n : ℕ) (rows : List ℕ) → cells_in T pool n rows ≡ cells_in (naming T.strings) pool n rows
  unfolding cells_in
  cells_by_strings pool zero rows = refl
  cells_by_strings pool (suc n) rows = ap (λ (l : List Cell). cell_in T pool rows ∷ l) (cells_by_strings pool n (drop 9 rows))
