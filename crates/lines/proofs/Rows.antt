-- Rows in their tables, and lines, one after the other.
use Prim.Native.Nat.{ℕ, zero, suc, ◌+◌, ◌-◌, ◌*◌, ◌<◌, ◌≤◌}
use mathlib.Core.Path.{◌≡◌, refl, sym, ap, ◌∙◌}
use mathlib.Core.List.{List, [], ◌∷◌, ◌++◌}
use native.Mathlib.Omega.{arith}
use lib.ListN.{length, take, drop, get_or, length-take, length-drop}
use lib.Seq.{get_or-take, drop-drop}
use Rattle.netlist.specs.Netlist.{Meta, Io}
use Rattle.netlist.specs.Tables.{Tables}
use Rattle.netlist.specs.View.{meta_in, metas_in, io_in, ios_in}
use Rattle.writing.specs.Stands.{Wrote, Leaves}
use Rattle.writing.proofs.Stands.{start, step, ended, same_rest, same_text}
use Rattle.lines.specs.Lines.{meta_line, meta_lines, io_line, io_lines}

-- the words that are lent of a row
pub slice_row : (rows : List ℕ) (x s : ℕ) → take (x + s - x) (drop x rows) ≡ take s (drop x rows)
slice_row rows x s = let e : x + s - x ≡ s = omega arith in rw e

pub slice_length : (rows : List ℕ) (x s : ℕ) → x + s ≤ length rows → length (take (x + s - x) (drop x rows)) ≡ s
slice_length rows x s h = simp (length-take, length-drop) (omega arith)

-- a row is its first 16 words
metas_row : (T : Tables) (rs : List ℕ) → meta_in T (take 16 rs) ≡ meta_in T rs
metas_row T rs = rw (get_or-take 16 rs 0 0 (omega arith), get_or-take 16 rs 1 0 (omega arith), get_or-take 16 rs 2 0 (omega arith), get_or-take 16 rs 3 0 (omega arith), get_or-take 16 rs 4 0 (omega arith), get_or-take 16 rs 5 0 (omega arith), get_or-take 16 rs 6 0 (omega arith), get_or-take 16 rs 7 0 (omega arith), get_or-take 16 rs 8 0 (omega arith), get_or-take 16 rs 9 0 (omega arith), get_or-take 16 rs 10 0 (omega arith), get_or-take 16 rs 11 0 (omega arith), get_or-take 16 rs 12 0 (omega arith), get_or-take 16 rs 13 0 (omega arith), get_or-take 16 rs 14 0 (omega arith), get_or-take 16 rs 15 0 (omega arith))

pub metas_start : (l : List ℕ) (n : ℕ) (T : Tables) (count : ℕ) (rows : List ℕ) → Leaves l n (meta_lines 0 (metas_in T count rows)) l n (meta_lines 0 (metas_in T (count - 0) (drop (0 * 16) rows)))
metas_start l n T count rows = let e : count - 0 ≡ count = omega arith in same_rest (start l n _) (λ k. rw e)

module _ {l l' : List ℕ} {n n' : ℕ} {f : List ℕ → List ℕ} (T : Tables) (count i : ℕ) (rows : List ℕ) where
  pub metas_turn : {l'' : List ℕ} {n'' : ℕ} (row : List ℕ) → i < count → row ≡ take 16 (drop (i * 16) rows) → Leaves l n f l' n' (meta_lines i (metas_in T (count - i) (drop (i * 16) rows)))
      → Wrote l' n' (meta_line i (meta_in T row)) l'' n'' → Leaves l n f l'' n'' (meta_lines (i + 1) (metas_in T (count - (i + 1)) (drop ((i + 1) * 16) rows)))
  unfolding meta_lines metas_in
  metas_turn row h r w p =
      let e : count - i ≡ suc (count - (i + 1)) = omega arith in
      let m : (i + 1) * 16 ≡ i * 16 + 16 = omega arith in
      let g : drop ((i + 1) * 16) rows ≡ drop 16 (drop (i * 16) rows) = rw m (sym (drop-drop 16 (i * 16) rows)) in
      let q : meta_in T row ≡ meta_in T (drop (i * 16) rows) = ap (meta_in T) r ∙ metas_row T (drop (i * 16) rows) in
      step (meta_lines (i + 1) (metas_in T (count - (i + 1)) (drop ((i + 1) * 16) rows))) (same_rest w (λ k. rw (e, g))) (same_text p (λ k. ap (λ (m : Meta). meta_line i m k) q))

  pub metas_end : count ≤ i → Leaves l n f l' n' (meta_lines i (metas_in T (count - i) (drop (i * 16) rows))) → Wrote l n f l' n'
  unfolding meta_lines metas_in
  metas_end h w = let e : count - i ≡ 0 = omega arith in ended w (λ k. rw e)

-- a row is its first 3 words
ios_row : (T : Tables) (rs : List ℕ) → io_in T (take 3 rs) ≡ io_in T rs
ios_row T rs = rw (get_or-take 3 rs 0 0 (omega arith), get_or-take 3 rs 1 0 (omega arith), get_or-take 3 rs 2 0 (omega arith))

pub ios_start : (l : List ℕ) (n : ℕ) (T : Tables) (count : ℕ) (rows : List ℕ) → Leaves l n (io_lines (ios_in T count rows)) l n (io_lines (ios_in T (count - 0) (drop (0 * 3) rows)))
ios_start l n T count rows = let e : count - 0 ≡ count = omega arith in same_rest (start l n _) (λ k. rw e)

module _ {l l' : List ℕ} {n n' : ℕ} {f : List ℕ → List ℕ} (T : Tables) (count i : ℕ) (rows : List ℕ) where
  pub ios_turn : {l'' : List ℕ} {n'' : ℕ} (row : List ℕ) → i < count → row ≡ take 3 (drop (i * 3) rows) → Leaves l n f l' n' (io_lines (ios_in T (count - i) (drop (i * 3) rows)))
      → Wrote l' n' (io_line (io_in T row)) l'' n'' → Leaves l n f l'' n'' (io_lines (ios_in T (count - (i + 1)) (drop ((i + 1) * 3) rows)))
  unfolding io_lines ios_in
  ios_turn row h r w p =
      let e : count - i ≡ suc (count - (i + 1)) = omega arith in
      let m : (i + 1) * 3 ≡ i * 3 + 3 = omega arith in
      let g : drop ((i + 1) * 3) rows ≡ drop 3 (drop (i * 3) rows) = rw m (sym (drop-drop 3 (i * 3) rows)) in
      let q : io_in T row ≡ io_in T (drop (i * 3) rows) = ap (io_in T) r ∙ ios_row T (drop (i * 3) rows) in
      step (io_lines (ios_in T (count - (i + 1)) (drop ((i + 1) * 3) rows))) (same_rest w (λ k. rw (e, g))) (same_text p (λ k. ap (λ (m : Io). io_line m k) q))

  pub ios_end : count ≤ i → Leaves l n f l' n' (io_lines (ios_in T (count - i) (drop (i * 3) rows))) → Wrote l n f l' n'
  unfolding io_lines ios_in
  ios_end h w = let e : count - i ≡ 0 = omega arith in ended w (λ k. rw e)
