-- Where the run rows resolve by the tables, the runs do.
use mathlib.Core.Path.{◌≡◌, refl, sym, ap, ◌∙◌}
use mathlib.Core.Bool.{Bool, true, false, ◌&&◌}
use mathlib.Core.List.{List, [], ◌∷◌, ◌++◌}
use Prim.Native.Nat.{ℕ, zero, suc, ◌+◌, ◌-◌, ◌*◌, ◌<◌, ◌≤◌}
use native.Mathlib.Nat.{add-zero}
use native.Mathlib.Omega.{arith}
use lib.Dec.{eqb, leb, ltb}
use lib.ListN.{length, drop, get_or}
use lib.Seq.{get_or-drop, drop-drop}
use borrow.Author.Tests.{leb-true, lt-ltb, ltb-true, ltb-false, ne_eqb}
use Rattle.ground.specs.Lists.{every}
use Rattle.ground.specs.Regions.{pad, zeros}
use Rattle.ground.proofs.Bools.{bool_cases, never_both, and_true, every_more}
use Rattle.netlist.specs.Netlist.{Run, const, piece, bits_in}
use Rattle.netlist.specs.Tables.{run_row, run_rows}
use Rattle.netlist.specs.Rules.{resolves}
use Rattle.saying.specs.Values.{row_of}
use Rattle.laying.specs.Bare.{run_resolves}
use Rattle.resolving.specs.Resolving.{Looks, resolves_in, row_resolves, rows_resolve}
use Rattle.resolving.proofs.Finding.{row_most}

past_all : (l : List ℕ) (i : ℕ) → length l ≤ i → get_or l i 0 ≡ 0
past_all [] i h = refl
past_all (x ∷ l) zero h = absurd (omega arith)
past_all (x ∷ l) (suc i) h = past_all l i (omega arith)

module _ (numbers widths numbered cells : List ℕ) (l : Looks numbers widths numbered cells) where
  -- the word of a number that resolves is its row plus one: there is no word for a number above them all
  piece_sound : (n o w : ℕ) → resolves_in numbered cells (record { cell = n; offset = o; width = w }) ≡ true → run_resolves numbers widths (piece n o w) ≡ true
  piece_sound n o w h = bool_cases (ltb n 65536)
      (λ b.
      let e : get_or numbered n 0 ≡ row_of numbers n = l.maps.is n (ltb-true n 65536 b) in
      let a = and_true (leb 1 (row_of numbers n)) (leb (o + w) (get_or cells ((row_of numbers n - 1) * 9 + 1) 0)) (rw e at h) in
      let k : 1 ≤ row_of numbers n = leb-true 1 (row_of numbers n) a.0 in
      let m : row_of numbers n - 1 < length widths = (let b = row_most numbers n 1 (omega arith) in omega (arith, l.count)) in
      let v : leb (o + w) (get_or widths (row_of numbers n - 1) 0) ≡ true = ap (leb (o + w)) (sym (l.width (row_of numbers n - 1) m)) ∙ a.1 in
      rw (a.0, lt-ltb (row_of numbers n - 1) (length widths) m, v))
      (λ b. let z : get_or numbered n 0 ≡ 0 = past_all numbered n (let f = ltb-false n 65536 b in omega (arith, l.maps.long)) in never_both h (rw z))

  row_sound : (n o w : ℕ) → row_resolves numbered cells (n + 1) o w ≡ true → run_resolves numbers widths (piece n o w) ≡ true
  row_sound n o w h =
      let z : eqb (n + 1) 0 ≡ false = ne_eqb (n + 1) 0 (λ e. omega arith) in
      let s : n + 1 - 1 ≡ n = omega arith in
      piece_sound n o w (rw (z, s) at h)

  rows_sound : (rs : List Run) (next : ℕ) (behind : List ℕ) → rows_resolve numbered cells (length rs) (run_rows next rs ++ behind) ≡ true → every (run_resolves numbers widths) rs ≡ true
  unfolding every run_rows rows_resolve
  rows_sound [] next behind h = refl
  rows_sound (const ts ∷ rs) next behind h = rows_sound rs (next + length ts) behind h
  rows_sound (piece n o w ∷ rs) next behind h = bool_cases (row_resolves numbered cells (n + 1) o w)
      (λ e. every_more (run_resolves numbers widths) (piece n o w) rs (row_sound n o w e) (rows_sound rs (next + 0) behind (rw (e, rows_resolve) at h)))
      (λ e. never_both (rw (e, rows_resolve) at h) refl)

  -- RULE 14 OF THE RUN ROWS
  pub runs_sound : (rs : List Run) (runs : List ℕ) (n : ℕ) → runs ≡ pad 12288 (run_rows 0 rs) → length rs ≡ n → rows_resolve numbered cells n runs ≡ true → every (run_resolves numbers widths) rs ≡ true
  unfolding pad
  runs_sound rs runs n e c h = rows_sound rs 0 (zeros (12288 - length (run_rows 0 rs))) (rw (e, ← c) at h)

-- how the walk over the rows goes on
pub rows_none : (numbered cells rows : List ℕ) (n : ℕ) → n ≤ 0 → true ≡ rows_resolve numbered cells n rows
unfolding rows_resolve
rows_none numbered cells rows zero h = refl
rows_none numbered cells rows (suc n) h = absurd (omega arith)

module _ (numbered cells rows : List ℕ) (n : ℕ) where
  first_on : row_resolves numbered cells (get_or rows 0 0) (get_or rows 1 0) (get_or rows 2 0) ≡ true → rows_resolve numbered cells (suc n) rows ≡ rows_resolve numbered cells n (drop 3 rows)
  unfolding rows_resolve
  first_on e = rw (e, rows_resolve)

  first_stop : row_resolves numbered cells (get_or rows 0 0) (get_or rows 1 0) (get_or rows 2 0) ≡ false → rows_resolve numbered cells (suc n) rows ≡ false
  unfolding rows_resolve
  first_stop e = rw (e, rows_resolve)

module _ (numbered cells rows : List ℕ) (n i : ℕ) (h : i < n) where
  here : n - i ≡ suc (n - (i + 1))
  here = omega arith

  -- row i begins what is left
  row_first : (b : Bool) → row_resolves numbered cells (get_or rows (i * 3) 0) (get_or rows (i * 3 + 1) 0) (get_or rows (i * 3 + 2) 0) ≡ b
      → row_resolves numbered cells (get_or (drop (i * 3) rows) 0 0) (get_or (drop (i * 3) rows) 1 0) (get_or (drop (i * 3) rows) 2 0) ≡ b
  row_first b e = rw (get_or-drop (i * 3) rows 0 0, get_or-drop (i * 3) rows 1 0, get_or-drop (i * 3) rows 2 0, add-zero (i * 3)) e

  pub rows_on : row_resolves numbered cells (get_or rows (i * 3) 0) (get_or rows (i * 3 + 1) 0) (get_or rows (i * 3 + 2) 0) ≡ true
      → rows_resolve numbered cells (n - (i + 1)) (drop ((i + 1) * 3) rows) ≡ rows_resolve numbered cells (n - i) (drop (i * 3) rows)
  rows_on e =
      let t : i * 3 + 3 ≡ (i + 1) * 3 = omega arith in
      ap (rows_resolve numbered cells (n - (i + 1))) (sym (drop-drop 3 (i * 3) rows ∙ ap (λ (k : ℕ). drop k rows) t))
      ∙ sym (first_on numbered cells (drop (i * 3) rows) (n - (i + 1)) (row_first true e))
      ∙ ap (λ (k : ℕ). rows_resolve numbered cells k (drop (i * 3) rows)) (sym here)

  pub rows_stop : row_resolves numbered cells (get_or rows (i * 3) 0) (get_or rows (i * 3 + 1) 0) (get_or rows (i * 3 + 2) 0) ≡ false
      → false ≡ rows_resolve numbered cells (n - i) (drop (i * 3) rows)
  rows_stop e =
      sym (first_stop numbered cells (drop (i * 3) rows) (n - (i + 1)) (row_first false e))
      ∙ ap (λ (k : ℕ). rows_resolve numbered cells k (drop (i * 3) rows)) (sym here)
