-- What a valid netlist says of the rows that a cell reads: they are there, they have bits, and so they are no outputs.
use mathlib.Core.Path.{◌≡◌, refl, sym, subst}
use mathlib.Core.Bool.{true, false, ◌&&◌}
use mathlib.Core.List.{List, [], ◌∷◌, ◌++◌}
use Prim.Native.Nat.{ℕ, ◌+◌, ◌<◌, ◌≤◌}
use native.Mathlib.Omega.{arith}
use lib.Dec.{eqb, leb, ltb}
use lib.ListN.{length, get_or, length-map, get_or-map}
use borrow.Author.Tests.{eqb-true, leb-true, ltb-true}
use Rattle.ground.specs.Lists.{every, joined}
use Rattle.ground.proofs.Bools.{bool_cases, and_true, never_both, fact, every_at, every_first, or_left, or_right}
use Rattle.trit.specs.Trit.{Trits}
use Rattle.graph.specs.Graph.{mem}
use Rattle.graph.proofs.Ready.{mem_here, mem_there, mem_cases}
use Rattle.kinds.specs.Kinds.{wide, output_kind, kind_at}
use Rattle.kinds.proofs.Widths.{Fits}
use Rattle.netlist.specs.Netlist.{Run, const, piece, Cell, Netlist, cell_runs, operand_width}
use Rattle.netlist.specs.Rules.{is_trit, run_sound, cell_sound, widths_of, valid}
use Rattle.netlist.proofs.Laying.{valid_cells}
use Rattle.netlist.proofs.Lengths.{cell_fits}
use Rattle.cells.specs.Operands.{run_reads, cell_reads}
use Rattle.cells.proofs.Linking.{RunsAsk}
use Rattle.placing.specs.Placing.{no_cell, cell_at, reads_of}

trits_all : (ts : List ℕ) → every is_trit ts ≡ true → Trits ts
trits_all [] h = tt
trits_all (t ∷ ts) h = let p = every_first is_trit t ts h in (ltb-true t 3 p.0, trits_all ts p.1)

-- a row that some run reads
abbrev pub Read : List Run → ℕ → Type 0
Read rs row = mem row (joined run_reads rs) ≡ true

-- a row that has bits, among rows of these widths
pub record Wide (widths : List ℕ) (row : ℕ) : Type 0 where
  pub below : row < length widths
  pub bits : 1 ≤ get_or widths row 0

module _ (widths : List ℕ) where
  run_wide : (row o w : ℕ) → run_sound widths (piece row o w) ≡ true → Wide widths row
  run_wide row o w h =
      let p = and_true (leb 1 w) (ltb row (length widths) && leb (o + w) (get_or widths row 0)) h in
      let q = and_true (ltb row (length widths)) (leb (o + w) (get_or widths row 0)) p.1 in
      record { below = ltb-true row (length widths) q.0; bits = omega (arith, leb-true 1 w p.0, leb-true (o + w) (get_or widths row 0) q.1) }

  -- what holds of the rows read is what the runs ask for
  pub runs_asked : (P : ℕ → Type 0) (rs : List Run) → every (run_sound widths) rs ≡ true → ((row : ℕ) → Wide widths row → Read rs row → P row) → RunsAsk P rs
  unfolding joined
  runs_asked P [] h f = tt
  runs_asked P (const ts ∷ rs) h f =
      let p = every_first (run_sound widths) (const ts) rs h in
      (trits_all ts (and_true (leb 1 (length ts)) (every is_trit ts) p.0).1, runs_asked P rs p.1 f)
  runs_asked P (piece row o w ∷ rs) h f =
      let p = every_first (run_sound widths) (piece row o w) rs h in
      (f row (run_wide row o w p.0) (mem_here row (joined run_reads rs)), runs_asked P rs p.1 (λ j v m. f j v (mem_there j row (joined run_reads rs) m)))

  pub runs_wide : (rs : List Run) → every (run_sound widths) rs ≡ true → (row : ℕ) → Read rs row → Wide widths row
  unfolding joined mem
  runs_wide [] h row m = never_both m refl
  runs_wide (const ts ∷ rs) h row m = runs_wide rs (every_first (run_sound widths) (const ts) rs h).1 row m
  runs_wide (piece j o w ∷ rs) h row m =
      let p = every_first (run_sound widths) (piece j o w) rs h in
      mathlib.Core.Logic.⊎_elim (λ e. subst (Wide widths) (sym e) (run_wide j o w p.0)) (λ q. runs_wide rs p.1 row q) (mem_cases row j (joined run_reads rs) m)

-- rows read by one operand or by a later one
read_left : (rs qs : List Run) (row : ℕ) → Read rs row → Read (rs ++ qs) row
unfolding joined mem
read_left [] qs row m = never_both m refl
read_left (const ts ∷ rs) qs row m = read_left rs qs row m
read_left (piece j o w ∷ rs) qs row m =
    mathlib.Core.Logic.⊎_elim (λ e. or_left (eqb row j) _ (subst (λ (z : ℕ). eqb row z ≡ true) e (rw (borrow.Author.Tests.eq-eqb row row refl))))
    (λ q. or_right (eqb row j) _ (read_left rs qs row q)) (mem_cases row j (joined run_reads rs) m)

read_right : (rs qs : List Run) (row : ℕ) → Read qs row → Read (rs ++ qs) row
unfolding joined mem
read_right [] qs row m = m
read_right (const ts ∷ rs) qs row m = read_right rs qs row m
read_right (piece j o w ∷ rs) qs row m = or_right (eqb row j) _ (read_right rs qs row m)

module _ (N : Netlist) (v : valid N ≡ true) where
  pub valid_cell : (row : ℕ) → row < length N.cells → cell_sound (widths_of N.cells) (length N.metas) (cell_at N row) ≡ true
  valid_cell row l = every_at (cell_sound (widths_of N.cells) (length N.metas)) N.cells no_cell (valid_cells N v) row l

  pub cell_runs_lem : (row : ℕ) → row < length N.cells → (every (run_sound (widths_of N.cells)) (cell_at N row).a ≡ true)
      × (every (run_sound (widths_of N.cells)) (cell_at N row).b ≡ true) × (every (run_sound (widths_of N.cells)) (cell_at N row).c ≡ true)
  cell_runs_lem row l =
      let h = valid_cell row l in
      ((and_true _ _ (fact _ h 8)).0, (and_true _ _ (fact _ h 9)).0, (and_true _ _ (fact _ h 10)).0)

  wide_bits : (row : ℕ) → Wide (widths_of N.cells) row → (row < length N.cells) × (1 ≤ (cell_at N row).width)
  wide_bits row w = (
    omega (arith, w.below, length-map N.cells (λ (c : Cell). c.width)),
    omega (arith, w.bits, get_or-map (λ (c : Cell). c.width) N.cells row no_cell),
  )

  -- an output has no bits
  pub wide_no_output : (row : ℕ) → Wide (widths_of N.cells) row → eqb (cell_at N row).kind output_kind ≡ false
  unfolding kind_at
  wide_no_output row w =
      let p = wide_bits row w in
      let c = cell_at N row in
      let f = cell_fits (widths_of N.cells) (length N.metas) c (valid_cell row p.0) in
      bool_cases (eqb c.kind output_kind)
      (λ e. let g : Fits (kind_at output_kind) c.width (operand_width c.a) (operand_width c.b) (operand_width c.c) = subst (λ (k : ℕ). Fits (kind_at k) c.width (operand_width c.a) (operand_width c.b) (operand_width c.c)) (eqb-true c.kind output_kind e) f in
      absurd (omega (arith, p.1, eqb-true c.width 0 (and_true (eqb c.width 0) (wide (operand_width c.a)) g.widths).0)))
      (λ e. e)

  -- the rows that a cell reads
  pub read_wide : (row : ℕ) → row < length N.cells → (j : ℕ) → mem j (reads_of N row) ≡ true → Wide (widths_of N.cells) j
  unfolding cell_reads
  read_wide row l j m =
      let p = cell_runs_lem row l in
      runs_wide (widths_of N.cells) (cell_runs (cell_at N row)) (every_join (cell_at N row).a ((cell_at N row).b ++ (cell_at N row).c) p.0 (every_join (cell_at N row).b (cell_at N row).c p.1 p.2)) j m
    where
      every_join : (rs qs : List Run) → every (run_sound (widths_of N.cells)) rs ≡ true → every (run_sound (widths_of N.cells)) qs ≡ true → every (run_sound (widths_of N.cells)) (rs ++ qs) ≡ true
      every_join [] qs p q = q
      every_join (r ∷ rs) qs p q = let h = every_first (run_sound (widths_of N.cells)) r rs p in Rattle.ground.proofs.Bools.every_more (run_sound (widths_of N.cells)) r (rs ++ qs) h.0 (every_join rs qs h.1 q)

  -- what holds of the rows that a cell reads is what its operands ask for
  pub cell_asks : (P : ℕ → Type 0) (row : ℕ) → row < length N.cells → ((j : ℕ) → Wide (widths_of N.cells) j → mem j (reads_of N row) ≡ true → P j)
      → RunsAsk P (cell_at N row).a × RunsAsk P (cell_at N row).b × RunsAsk P (cell_at N row).c
  unfolding cell_reads
  cell_asks P row l f =
      let p = cell_runs_lem row l in
      let c = cell_at N row in
      let ws = widths_of N.cells in (
        runs_asked ws P c.a p.0 (λ j w m. f j w (read_left c.a (c.b ++ c.c) j m)),
        runs_asked ws P c.b p.1 (λ j w m. f j w (read_right c.a (c.b ++ c.c) j (read_left c.b c.c j m))),
        runs_asked ws P c.c p.2 (λ j w m. f j w (read_right c.a (c.b ++ c.c) j (read_right c.b c.c j m))),
      )
