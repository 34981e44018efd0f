-- Operands by the numbers of cells: they are longest runs again, and by rows they are what they were.
use mathlib.Core.Path.{◌≡◌, refl, ap, ap₂, ◌∙◌}
use mathlib.Core.Bool.{Bool, true, false, ◌&&◌}
use mathlib.Core.List.{List, [], ◌∷◌, map}
use Prim.Native.Nat.{ℕ, ◌+◌, ◌-◌, ◌<◌}
use native.Mathlib.Omega.{arith}
use lib.Dec.{eqb, leb, ltb}
use lib.ListN.{length, get_or}
use borrow.Author.Tests.{eqb-true, eqb-false, eq-eqb, ne_eqb, leb-true, ltb-true}
use Rattle.ground.specs.Lists.{every, joined}
use Rattle.ground.proofs.Bools.{bool_cases, never_both, and_true, every_first, fact}
use Rattle.ground.proofs.Counts.{length_mapped}
use Rattle.netlist.specs.Netlist.{Run, const, piece, Cell, Netlist}
use Rattle.netlist.specs.Runs.{joins, longest, run_bits, operand_bits, cut}
use Rattle.netlist.specs.Rules.{is_trit, resolves, run_sound, operand_sound, cell_sound, widths_of, valid}
use Rattle.netlist.proofs.Laying.{valid_cells}
use Rattle.laying.proofs.Melding.{meld, cut_append, cut_falling, cut_known}
use Rattle.numbering.specs.Numbers.{numbers_from}
use Rattle.saying.specs.Values.{row_of, row_run, row_cell}
use Rattle.fronts.specs.Fronts.{number_run, number_cell}
use Rattle.fronts.proofs.Rows.{number_row}

-- LONGEST RUNS, none of them empty, are cut again as they are
abbrev filled : Run → Bool
filled (const ts) = leb 1 (length ts)
filled (piece n o w) = leb 1 w

cut_run : (r : Run) → filled r ≡ true → cut (run_bits r) ≡ r ∷ []
cut_run (const ts) h = cut_known ts (leb-true 1 (length ts) h)
cut_run (piece n o w) h = cut_falling n o w (leb-true 1 w h)

cut_longest : (rs : List Run) → every filled rs ≡ true → longest rs ≡ true → cut (operand_bits rs) ≡ rs
unfolding joined cut longest meld
cut_longest [] h l = refl
cut_longest (r ∷ []) h l =
    let f = every_first filled r [] h in
    cut_append (run_bits r) [] ∙ rw (cut_run r f.0)
cut_longest (r ∷ q ∷ rs) h l =
    let f = every_first filled r (q ∷ rs) h in
    bool_cases (joins r q)
    (λ e. never_both (rw (e, longest) at l) refl)
    (λ e. cut_append (run_bits r) (operand_bits (q ∷ rs)) ∙ rw (cut_run r f.0, cut_longest (q ∷ rs) f.1 (rw (e, longest) at l), e))

module _ (cs : List Cell) where
  abbrev numbers : List ℕ
  numbers = numbers_from 0 cs

  -- a piece that resolves names a row
  row_there : (row o w : ℕ) → run_sound (widths_of cs) (piece row o w) ≡ true → row < length cs
  row_there row o w h =
      let p = and_true (leb 1 w) (resolves (widths_of cs) row o w) h in
      let q = and_true (ltb row (length (widths_of cs))) (leb (o + w) (get_or (widths_of cs) row 0)) p.1 in
      let l = ltb-true row (length (widths_of cs)) q.0 in
      omega (arith, length_mapped (λ (c : Cell). c.width) cs)

  -- two rows are one where their numbers are
  numbers_same : (n m : ℕ) → n < length cs → m < length cs → eqb (get_or numbers n 0) (get_or numbers m 0) ≡ eqb n m
  numbers_same n m a b = bool_cases (eqb n m)
      (λ e. let i : n ≡ m = eqb-true n m e in rw (e, i) (eq-eqb (get_or numbers m 0) (get_or numbers m 0) refl))
      (λ e. rw e (ne_eqb (get_or numbers n 0) (get_or numbers m 0) (λ z.
      let x = number_row cs n a in
      let y : row_of numbers (get_or numbers n 0) ≡ m + 1 = rw z (number_row cs m b) in
      eqb-false n m e (omega arith))))

  joins_numbered : (r q : Run) → run_sound (widths_of cs) r ≡ true → run_sound (widths_of cs) q ≡ true → joins (number_run numbers r) (number_run numbers q) ≡ joins r q
  joins_numbered (const ts) (const us) a b = refl
  joins_numbered (const ts) (piece n o w) a b = refl
  joins_numbered (piece n o w) (const us) a b = refl
  joins_numbered (piece n o w) (piece m q v) a b = ap (λ (x : Bool). x && eqb o (q + v)) (numbers_same n m (row_there n o w a) (row_there m q v b))

  longest_numbered : (rs : List Run) → every (run_sound (widths_of cs)) rs ≡ true → longest rs ≡ true → longest (map (number_run numbers) rs) ≡ true
  unfolding longest
  longest_numbered [] h l = refl
  longest_numbered (r ∷ []) h l = refl
  longest_numbered (r ∷ q ∷ rs) h l =
      let f = every_first (run_sound (widths_of cs)) r (q ∷ rs) h in
      let g = every_first (run_sound (widths_of cs)) q rs f.1 in
      let j = joins_numbered r q f.0 g.0 in
      bool_cases (joins r q)
      (λ e. never_both (rw (e, longest) at l) refl)
      (λ e. let k : joins (number_run numbers r) (number_run numbers q) ≡ false = j ∙ e in rw (k, longest) (longest_numbered (q ∷ rs) f.1 (rw (e, longest) at l)))

  run_filled : (r : Run) → run_sound (widths_of cs) r ≡ true → filled (number_run numbers r) ≡ true
  run_filled (const ts) h = (and_true (leb 1 (length ts)) (every is_trit ts) h).0
  run_filled (piece n o w) h = (and_true (leb 1 w) (resolves (widths_of cs) n o w) h).0

  runs_filled : (rs : List Run) → every (run_sound (widths_of cs)) rs ≡ true → every filled (map (number_run numbers) rs) ≡ true
  unfolding every
  runs_filled [] h = refl
  runs_filled (r ∷ rs) h = let f = every_first (run_sound (widths_of cs)) r rs h in rw (run_filled r f.0, every) (runs_filled rs f.1)

  -- an operand by numbers is cut as it is
  pub cut_back : (rs : List Run) → operand_sound (widths_of cs) rs ≡ true
      → cut (operand_bits (map (number_run (numbers_from 0 cs)) rs)) ≡ map (number_run (numbers_from 0 cs)) rs
  cut_back rs h =
      let p = and_true (every (run_sound (widths_of cs)) rs) (longest rs) h in
      cut_longest (map (number_run numbers) rs) (runs_filled rs p.0) (longest_numbered rs p.0 p.1)

  -- NUMBERS TO ROWS
  run_back : (r : Run) → run_sound (widths_of cs) r ≡ true → row_run numbers (number_run numbers r) ≡ r
  run_back (const ts) h = refl
  run_back (piece n o w) h =
      let e = number_row cs n (row_there n o w h) in
      let f : row_of numbers (get_or numbers n 0) - 1 ≡ n = omega arith in
      ap (λ (k : ℕ). piece k o w) f

  runs_back : (rs : List Run) → every (run_sound (widths_of cs)) rs ≡ true → map (row_run numbers) (map (number_run numbers) rs) ≡ rs
  runs_back [] h = refl
  runs_back (r ∷ rs) h =
      let f = every_first (run_sound (widths_of cs)) r rs h in
      ap₂ (λ (x : Run) (l : List Run). x ∷ l) (run_back r f.0) (runs_back rs f.1)

  operand_back : (rs : List Run) → operand_sound (widths_of cs) rs ≡ true → map (row_run numbers) (map (number_run numbers) rs) ≡ rs
  operand_back rs h = runs_back rs (and_true (every (run_sound (widths_of cs)) rs) (longest rs) h).0

  cell_back : (metas : ℕ) (c : Cell) → cell_sound (widths_of cs) metas c ≡ true → row_cell numbers (number_cell numbers c) ≡ c
  cell_back metas c h = rw (operand_back c.a (fact _ h 8), operand_back c.b (fact _ h 9), operand_back c.c (fact _ h 10))

  every_back : (metas : ℕ) (ds : List Cell) → every (cell_sound (widths_of cs) metas) ds ≡ true → map (row_cell numbers) (map (number_cell numbers) ds) ≡ ds
  every_back metas [] h = refl
  every_back metas (d ∷ ds) h =
      let f = every_first (cell_sound (widths_of cs) metas) d ds h in
      ap₂ (λ (x : Cell) (l : List Cell). x ∷ l) (cell_back metas d f.0) (every_back metas ds f.1)

-- the cells of a valid netlist, told by numbers and then by rows
pub cells_back : (N : Netlist) → valid N ≡ true → map (row_cell (numbers_from 0 N.cells)) (map (number_cell (numbers_from 0 N.cells)) N.cells) ≡ N.cells
cells_back N v = every_back N.cells (length N.metas) N.cells (valid_cells N v)
