-- The words of good tables say what their netlist says of the order of placing.
use mathlib.Core.Path.{◌≡◌, refl, ap, ap₂, ◌∙◌, sym, subst}
use mathlib.Core.Bool.{true, ◌||◌}
use mathlib.Core.List.{List, [], ◌∷◌, ◌++◌}
use Prim.Native.Nat.{ℕ, zero, suc, ◌+◌, ◌-◌, ◌*◌, ◌<◌, ◌≤◌}
use native.Mathlib.Omega.{arith}
use native.Mathlib.Nat.{add-zero}
use lib.Dec.{eqb}
use lib.ListN.{length, get_or, take, drop, length-append}
use lib.Seq.{get_or-drop, drop-drop, take-add, get_or-append-add}
use Rattle.ground.specs.Lists.{joined}
use Rattle.ground.specs.Regions.{zeros, pad, part}
use Rattle.ground.proofs.Bools.{bool_cases, and_true}
use Rattle.graph.specs.Graph.{mem, order, left_out}
use Rattle.graph.proofs.Same.{Alike, order_alike, left_out_alike}
use Rattle.kinds.specs.Kinds.{input_kind, output_kind}
use Rattle.netlist.specs.Netlist.{Run, Cell, Netlist, cell_runs, runs_of}
use Rattle.netlist.specs.Rules.{valid}
use Rattle.netlist.specs.Tables.{Tables, cell_row, cell_rows, cell_start, layout}
use Rattle.netlist.specs.View.{run_in, runs_in, pool_in, cell_in, cells_in, view}
use Rattle.netlist.specs.Good.{laid, good}
use Rattle.netlist.proofs.Laying.{Long, laid_is, valid_roomy}
use Rattle.cells.specs.Operands.{run_reads, cell_reads}
use Rattle.placing.specs.declared.Placed.{Placed}
use Rattle.placing.specs.InTables.{run_read, reads_from, first_run, run_count, reads_in, apart_in, order_in, ring_in, Inside, PlacedAll}
use Rattle.placing.specs.Placing.{no_cell, cell_at, reads_of, apart, placing_of, ringed}
use Rattle.placing.proofs.Rings.{read_below}

-- the word of a row
at_row : (t : List ℕ) (k : ℕ) → get_or (drop k t) 0 0 ≡ get_or t k 0
at_row t k = get_or-drop k t 0 0 ∙ ap (λ (i : ℕ). get_or t i 0) (add-zero k)

module _ (T : Tables) where
  -- Rows of cells

  cells_length : (pool : List Run) (n : ℕ) (t : List ℕ) → length (cells_in T pool n t) ≡ n
  unfolding cells_in
  cells_length pool zero t = refl
  cells_length pool (suc n) t = ap suc (cells_length pool n (drop 9 t))

  cell_there : (pool : List Run) (n : ℕ) (t : List ℕ) (i : ℕ) → i < n → get_or (cells_in T pool n t) i no_cell ≡ cell_in T pool (drop (i * 9) t)
  unfolding cells_in
  cell_there pool zero t i l = absurd (omega arith)
  cell_there pool (suc n) t zero l = refl
  cell_there pool (suc n) t (suc i) l =
      let e : 9 + i * 9 ≡ suc i * 9 = omega arith in
      cell_there pool n (drop 9 t) i (omega arith) ∙ ap (cell_in T pool) (drop-drop (i * 9) 9 t ∙ ap (λ (k : ℕ). drop k t) e)

  -- Runs

  runs_from : (n : ℕ) (t : List ℕ) (k : ℕ) → drop k (runs_in T n t) ≡ runs_in T (n - k) (drop (k * 3) t)
  unfolding runs_in
  runs_from n t zero = let e : n - 0 ≡ n = omega arith in rw e
  runs_from zero t (suc k) = let e : 0 - suc k ≡ 0 = omega arith in rw e
  runs_from (suc n) t (suc k) =
      let e : 3 + k * 3 ≡ suc k * 3 = omega arith in
      let m : suc n - suc k ≡ n - k = omega arith in
      runs_from n (drop 3 t) k ∙ rw m (ap (runs_in T (n - k)) (drop-drop (k * 3) 3 t ∙ ap (λ (i : ℕ). drop i t) e))

  run_reads_lem : (t : List ℕ) (k : ℕ) → run_reads (run_in T (drop (k * 3) t)) ≡ run_read t k
  run_reads_lem t k = bool_cases (eqb (get_or t (k * 3) 0) 0) (λ e. rw (at_row t (k * 3), e)) (λ e. rw (at_row t (k * 3), e))

  runs_read : (c m : ℕ) (t : List ℕ) (k : ℕ) → c ≤ m → joined run_reads (take c (runs_in T m (drop (k * 3) t))) ≡ reads_from t k c
  unfolding runs_in joined reads_from
  runs_read zero m t k l = refl
  runs_read (suc c) zero t k l = absurd (omega arith)
  runs_read (suc c) (suc m) t k l =
      let e : k * 3 + 3 ≡ (k + 1) * 3 = omega arith in
      let d : drop 3 (drop (k * 3) t) ≡ drop ((k + 1) * 3) t = drop-drop 3 (k * 3) t ∙ ap (λ (i : ℕ). drop i t) e in
      ap₂ (λ (x y : List ℕ). x ++ y) (run_reads_lem t k) (ap (λ (u : List ℕ). joined run_reads (take c (runs_in T m u))) d ∙ runs_read c m t (k + 1) (omega arith))

  -- a part of the pool
  pool_reads : (s c : ℕ) → s + c ≤ 4096 → joined run_reads (part s c (pool_in T)) ≡ reads_from T.runs s c
  unfolding part
  pool_reads s c l = ap (λ (p : List Run). joined run_reads (take c p)) (runs_from 4096 T.runs s) ∙ runs_read c (4096 - s) T.runs s (omega arith)

-- parts one after the other
parts_join : (p : List Run) (s x y : ℕ) → part s x p ++ part (s + x) y p ≡ part s (x + y) p
unfolding part
parts_join p s x y = ap (λ (l : List Run). take x (drop s p) ++ take y l) (sym (drop-drop x s p)) ∙ sym (take-add x y (drop s p))

-- where the runs of a row of cells end
runs_end : (cs : List Cell) (s r : ℕ) (z : List ℕ) (i : ℕ) → i < length cs → first_run (cell_rows s r cs ++ z) i + run_count (cell_rows s r cs ++ z) i ≤ r + length (runs_of cs)
unfolding cell_rows joined
runs_end [] s r z i l = absurd (omega arith)
runs_end (c ∷ cs) s r z zero l =
    omega (arith, length-append (c.a ++ (c.b ++ c.c)) (joined cell_runs cs), length-append c.a (c.b ++ c.c), length-append c.b c.c)
runs_end (c ∷ cs) s r z (suc i) l =
    let t = cell_rows (s + length c.name) (r + length (cell_runs c)) cs ++ z in
    let h : first_run t i + run_count t i ≤ r + length (cell_runs c) + length (runs_of cs) = runs_end cs _ _ z i (omega arith) in
    rw (moved t 5, moved t 6, moved t 7, moved t 8) (omega (arith, h, length-append (cell_runs c) (joined cell_runs cs)))
  where
    moved : (t : List ℕ) (j : ℕ) → get_or (cell_row s r c ++ t) (suc i * 9 + j) 0 ≡ get_or t (i * 9 + j) 0
    moved t j = let e : suc i * 9 + j ≡ 9 + (i * 9 + j) = omega arith in ap (λ (k : ℕ). get_or (cell_row s r c ++ t) k 0) e ∙ get_or-append-add (cell_row s r c) t (i * 9 + j) 0

module _ (T : Tables) (long : Long T) (g : good T ≡ true) where
  abbrev N : Netlist
  N = view T

  was : (laid N T ≡ true) × (valid N ≡ true)
  unfolding good
  was = and_true (laid (view T) T) (valid (view T)) g

  many : length N.cells ≡ T.cell_count
  unfolding view
  many = cells_length T (pool_in T) T.cell_count T.cells

  runs_inside : (row : ℕ) → row < T.cell_count → first_run T.cells row + run_count T.cells row ≤ 4096
  unfolding layout pad
  runs_inside row l =
      let e : T.cells ≡ cell_rows (cell_start N) 0 N.cells ++ zeros (4608 - length (cell_rows (cell_start N) 0 N.cells)) = ap (λ (U : Tables). U.cells) (laid_is T long was.0) in
      let h = runs_end N.cells (cell_start N) 0 (zeros (4608 - length (cell_rows (cell_start N) 0 N.cells))) row (omega (arith, many)) in
      let r : first_run T.cells row + run_count T.cells row ≤ 0 + length (runs_of N.cells) = subst (λ (t : List ℕ). first_run t row + run_count t row ≤ 0 + length (runs_of N.cells)) (sym e) h in
      omega (arith, r, (valid_roomy N was.1).runs)

  cell_is : (row : ℕ) → row < T.cell_count → cell_at N row ≡ cell_in T (pool_in T) (drop (row * 9) T.cells)
  unfolding view
  cell_is row l = cell_there T (pool_in T) T.cell_count T.cells row l

  -- the same reads
  reads_alike : Alike (reads_in T.cells T.runs) (reads_of N) T.cell_count
  unfolding reads_in cell_reads
  reads_alike row l =
      let t = T.cells in
      let s = get_or t (row * 9 + 5) 0 in
      let x = get_or t (row * 9 + 6) 0 in
      let y = get_or t (row * 9 + 7) 0 in
      let z = get_or t (row * 9 + 8) 0 in
      let p = pool_in T in
      let m : x + (y + z) ≡ x + y + z = omega arith in
      let j : part s x p ++ (part (s + x) y p ++ part (s + x + y) z p) ≡ part s (x + y + z) p
      = ap (λ (l : List Run). part s x p ++ l) (parts_join p (s + x) y z) ∙ parts_join p s x (y + z) ∙ ap (λ (k : ℕ). part s k p) m in
      let w : cell_runs (cell_in T p (drop (row * 9) t)) ≡ part s x p ++ (part (s + x) y p ++ part (s + x + y) z p)
      = rw (get_or-drop (row * 9) t 5 0, get_or-drop (row * 9) t 6 0, get_or-drop (row * 9) t 7 0, get_or-drop (row * 9) t 8 0) in
      sym (pool_reads T s (x + y + z) (runs_inside row l)) ∙ sym (ap (joined run_reads) (w ∙ j)) ∙ sym (ap cell_reads (cell_is row l))

  -- and the same rows apart
  apart_alike : Alike (apart_in T.cells) (apart N) T.cell_count
  unfolding apart_in
  apart_alike row l =
      let e : (cell_at N row).kind ≡ get_or T.cells (row * 9) 0 = ap (λ (c : Cell). c.kind) (cell_is row l) ∙ at_row T.cells (row * 9) in
      ap (λ (k : ℕ). eqb k input_kind || eqb k output_kind) (sym e)

  reads_inside : (row j : ℕ) → row < T.cell_count → mem j (reads_in T.cells T.runs row) ≡ true → j < T.cell_count
  reads_inside row j l m =
      let b = read_below N was.1 row j (omega (arith, many)) (subst (λ (xs : List ℕ). mem j xs ≡ true) (reads_alike row l) m) in
      omega (arith, many, b)

  -- WHAT PLACING ASKS
  pub good_inside : Inside T.cells T.runs T.cell_count
  good_inside = record {
    cells_long = long.cells;
    runs_long = long.runs;
    few = omega (arith, many, (valid_roomy N was.1).cells);
    runs_there = runs_inside;
    reads_there = reads_inside;
  }

  -- AND WHAT IT GIVES
  pub good_order : order_in T.cells T.runs T.cell_count ≡ placing_of (view T)
  unfolding order_in placing_of
  good_order =
      order_alike (reads_in T.cells T.runs) (reads_of N) T.cell_count reads_alike reads_inside (apart_in T.cells) (apart N) apart_alike
      ∙ ap (λ (n : ℕ). order (reads_of N) n (apart N)) (sym many)

  pub good_ring : ring_in T.cells T.runs T.cell_count ≡ ringed (view T)
  unfolding ring_in ringed
  good_ring =
      left_out_alike (reads_in T.cells T.runs) (reads_of N) T.cell_count reads_alike reads_inside (apart_in T.cells) (apart N) apart_alike
      ∙ ap (λ (n : ℕ). left_out (reads_of N) n (apart N)) (sym many)

  -- so a placing of good tables is that of their netlist
  pub good_placed : {rows marks : List ℕ} {answer : Placed} → PlacedAll T.cells T.runs T.cell_count rows marks answer
      → (rows ≡ pad 512 (placing_of (view T))) × (marks ≡ zeros 1026) × (answer.count ≡ length (placing_of (view T))) × (answer.ring ≡ ringed (view T))
  good_placed p = (p.rows_are ∙ ap (pad 512) good_order, p.clear, p.count ∙ ap length good_order, p.ring ∙ good_ring)
