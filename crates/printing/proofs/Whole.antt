-- The whole text: its lines one after the other, and what its count tells.
use Prim.Native.Nat.{ℕ, zero, suc, ◌+◌, ◌-◌, ◌≤◌, min}
use mathlib.Core.Path.{◌≡◌, refl, sym, ap, ◌∙◌}
use mathlib.Core.Bool.{Bool, true, false, ◌&&◌}
use mathlib.Core.List.{List, [], ◌∷◌, ◌++◌}
use native.Mathlib.Omega.{arith}
use lib.Dec.{eqb}
use lib.ListN.{length, take, drop, length-take}
use lib.Seq.{take-append_seam}
use Rattle.netlist.specs.Netlist.{Run, Cell, Netlist}
use Rattle.netlist.specs.Rules.{widths_of}
use Rattle.netlist.specs.Tables.{Tables}
use Rattle.netlist.specs.View.{metas_in, ios_in, cells_in, pool_in, view}
use Rattle.writing.specs.Stands.{Stand, most, onward, Wrote}
use Rattle.writing.proofs.Stands.{then, same_text}
use Rattle.numbering.specs.Numbers.{numbers_from, numbers_by, row_widths}
use Rattle.numbering.proofs.Laws.{widths_of_lem, numbers_of}
use Rattle.celllines.specs.CellLines.{cell_lines}
use Rattle.lines.specs.Lines.{meta_lines, io_lines, is_bare, lines, canonical}
use Rattle.printing.specs.Whole.{canonical_then}

-- the lines of metadata, I/O and cells, under the numbers and widths of all cells
module _ (T : Tables) {numbers widths : List ℕ} (e : widths ≡ row_widths T.cell_count T.cells) (f : numbers ≡ numbers_by 0 widths) where
  abbrev cs : List Cell
  cs = cells_in T (pool_in T) T.cell_count T.cells

  widths_held : widths ≡ widths_of cs
  widths_held = e ∙ sym (widths_of_lem T (pool_in T) T.cell_count T.cells)

  numbers_held : numbers ≡ numbers_from 0 cs
  numbers_held = f ∙ ap (numbers_by 0) widths_held ∙ sym (numbers_of 0 cs)

  pub joined_lines : {l l₁ l₂ l₃ : List ℕ} {n₁ n₂ n₃ : ℕ} → Wrote l 0 (meta_lines 0 (view T).metas) l₁ n₁ → Wrote l₁ n₁ (io_lines (view T).ios) l₂ n₂
      → Wrote l₂ n₂ (cell_lines numbers widths numbers (view T).cells) l₃ n₃ → Wrote l 0 (lines (view T)) l₃ n₃
  unfolding lines view
  joined_lines p q r = same_text (then p (then q r)) (λ k i. meta_lines 0 (view T).metas (io_lines (view T).ios (cell_lines (numbers_held i) (widths_held i) (numbers_held i) cs k)))

-- tables show as many rows as they count
module _ (T : Tables) where
  pub metas_many : (n : ℕ) (t : List ℕ) → length (metas_in T n t) ≡ n
  unfolding metas_in
  metas_many zero t = refl
  metas_many (suc n) t = ap suc (metas_many n (drop 16 t))

  pub ios_many : (n : ℕ) (t : List ℕ) → length (ios_in T n t) ≡ n
  unfolding ios_in
  ios_many zero t = refl
  ios_many (suc n) t = ap suc (ios_many n (drop 3 t))

  pub cells_many : (pool : List Run) (n : ℕ) (t : List ℕ) → length (cells_in T pool n t) ≡ n
  unfolding cells_in
  cells_many pool zero t = refl
  cells_many pool (suc n) t = ap suc (cells_many pool n (drop 9 t))

  bare_is : is_bare (view T) ≡ (eqb T.meta_count 0 && (eqb T.io_count 0 && eqb T.cell_count 0))
  unfolding view
  bare_is =
      let m = metas_many T.meta_count T.metas in
      let o = ios_many T.io_count T.ios in
      let c = cells_many (pool_in T) T.cell_count T.cells in
      λ i. eqb (m i) 0 && (eqb (o i) 0 && eqb (c i) 0)

-- the two ways of the text
module _ (T : Tables) {l l' : List ℕ} {n r : ℕ} {b : Bool} (e : b ≡ (eqb T.meta_count 0 && (eqb T.io_count 0 && eqb T.cell_count 0))) where
  pub bare_text : b ≡ true → Wrote l n (λ k. 10 ∷ k) l' r → Wrote l n (canonical_then (view T)) l' r
  unfolding canonical_then
  bare_text h p = same_text p (λ k. let f : is_bare (view T) ≡ true = bare_is T ∙ sym e ∙ h in rw f)

  pub full_text : b ≡ false → Wrote l n (lines (view T)) l' r → Wrote l n (canonical_then (view T)) l' r
  unfolding canonical_then
  full_text h p = same_text p (λ k. let f : is_bare (view T) ≡ false = bare_is T ∙ sym e ∙ h in rw f)

-- the text alone
pub nothing_more : (N : Netlist) → canonical_then N [] ≡ canonical N
unfolding canonical_then canonical
nothing_more N = refl

-- the count of a text, up to the largest one
pub counts : (N : Netlist) {l l' : List ℕ} {r : ℕ} → Wrote l 0 (canonical_then N) l' r → r ≤ most → r ≡ min (length (canonical N)) most
unfolding onward
counts N {r} p h =
    let e : min (r + 0) most ≡ min (0 + length (canonical_then N [])) most = ap (λ (x : Stand). x.count) (p.goes []) in
    let f : length (canonical_then N []) ≡ length (canonical N) = ap (λ (x : List ℕ). length x) (nothing_more N) in
    omega (arith, e, f)

-- the front of work space: so many words, and as lent again after they were written over
pub front_length : (old : List ℕ) (n : ℕ) → length old ≡ 512 → n ≤ 512 → length (take (n - 0) old) ≡ n
front_length old n h k = simp length-take (omega arith)

pub front_again : (xs ys : List ℕ) (n : ℕ) → length xs ≡ n → take (n - 0) (xs ++ ys) ≡ xs
front_again xs ys n h =
    let e : n - 0 ≡ length xs = omega arith in
    rw e (take-append_seam xs ys)
