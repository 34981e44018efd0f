-- Rows of cells in their table, and their lines, one after the other.
use Prim.Native.Nat.{ℕ, zero, suc, ◌+◌, ◌-◌, ◌*◌, ◌<◌, ◌≤◌}
use mathlib.Core.Path.{◌≡◌, refl, sym, ap, ◌∙◌}
use mathlib.Core.List.{List, [], ◌∷◌}
use native.Mathlib.Omega.{arith}
use lib.ListN.{length, take, drop, get_or, length-take, length-drop}
use lib.Seq.{get_or-take, drop-drop}
use Rattle.ground.proofs.Rest.{rest_cons, rest_end}
use Rattle.netlist.specs.Netlist.{Run, Cell}
use Rattle.netlist.specs.Tables.{Tables}
use Rattle.netlist.specs.View.{cell_in, cells_in}
use Rattle.writing.specs.Stands.{Wrote, Leaves}
use Rattle.writing.proofs.Stands.{start, step, ended, same_rest, same_text}
use Rattle.celllines.specs.CellLines.{cell_line, cell_lines}

-- the words that are lent of a row
pub slice_row : (rows : List ℕ) (x s : ℕ) → take (x + s - x) (drop x rows) ≡ take s (drop x rows)
slice_row rows x s = let e : x + s - x ≡ s = omega arith in rw e

pub slice_length : (rows : List ℕ) (x s : ℕ) → x + s ≤ length rows → length (take (x + s - x) (drop x rows)) ≡ s
slice_length rows x s h = simp (length-take, length-drop) (omega arith)

-- a row is its first 9 words
cell_row : (T : Tables) (pool : List Run) (rs : List ℕ) → cell_in T pool (take 9 rs) ≡ cell_in T pool rs
cell_row T pool rs = rw (get_or-take 9 rs 0 0 (omega arith), get_or-take 9 rs 1 0 (omega arith), get_or-take 9 rs 2 0 (omega arith), get_or-take 9 rs 3 0 (omega arith), get_or-take 9 rs 4 0 (omega arith), get_or-take 9 rs 5 0 (omega arith), get_or-take 9 rs 6 0 (omega arith), get_or-take 9 rs 7 0 (omega arith), get_or-take 9 rs 8 0 (omega arith))

module _ (numbers widths : List ℕ) (T : Tables) (pool : List Run) (rows : List ℕ) where
  -- the lines of the cells from row i on
  abbrev pub lines_from : ℕ → List ℕ → List ℕ
  lines_from i k = cell_lines numbers widths (drop i numbers) (cells_in T pool (length numbers - i) (drop (i * 9) rows)) k

  pub cells_start : (l : List ℕ) (n : ℕ) → Leaves l n (cell_lines numbers widths numbers (cells_in T pool (length numbers) rows)) l n (lines_from 0)
  cells_start l n = let e : length numbers - 0 ≡ length numbers = omega arith in same_rest (start l n _) (λ k. rw e)

  module _ {l l' : List ℕ} {n n' : ℕ} {f : List ℕ → List ℕ} (i : ℕ) where
    pub cells_turn : {l'' : List ℕ} {n'' : ℕ} (row : List ℕ) → i < length numbers → row ≡ take 9 (drop (i * 9) rows) → Leaves l n f l' n' (lines_from i)
        → Wrote l' n' (cell_line numbers widths (get_or numbers i 0) (cell_in T pool row)) l'' n'' → Leaves l n f l'' n'' (lines_from (i + 1))
    unfolding cell_lines cells_in
    cells_turn row h r w p =
        let e : length numbers - i ≡ suc (length numbers - (i + 1)) = omega arith in
        let m : (i + 1) * 9 ≡ i * 9 + 9 = omega arith in
        let g : drop ((i + 1) * 9) rows ≡ drop 9 (drop (i * 9) rows) = rw m (sym (drop-drop 9 (i * 9) rows)) in
        let q : cell_in T pool row ≡ cell_in T pool (drop (i * 9) rows) = ap (cell_in T pool) r ∙ cell_row T pool (drop (i * 9) rows) in
        step (lines_from (i + 1)) (same_rest w (λ k. rw (e, rest_cons numbers i h, g))) (same_text p (λ k. ap (λ (c : Cell). cell_line numbers widths (get_or numbers i 0) c k) q))

    pub cells_end : length numbers ≤ i → Leaves l n f l' n' (lines_from i) → Wrote l n f l' n'
    unfolding cell_lines
    cells_end h w = ended w (λ k. rw (rest_end numbers i h))
