-- 20 exactly where a ring is: some cell is never placed if and only if a cell is reached from itself.
use mathlib.Core.Path.{◌≡◌, refl, subst}
use mathlib.Core.Bool.{true, false}
use mathlib.Core.Logic.{⊎_elim}
use mathlib.Core.List.{List, [], ◌∷◌}
use Prim.Native.Nat.{ℕ, ◌<◌, ◌≤◌}
use native.Mathlib.Omega.{arith}
use lib.Dec.{eqb}
use native.Mathlib.Decide.{dec_lt}
use lib.ListN.{length, get_or, length-map}
use borrow.Author.Tests.{eqb-true}
use Rattle.ground.specs.Lists.{joined}
use Rattle.ground.proofs.Bools.{never_both, or_true, fact}
use Rattle.graph.specs.Graph.{mem, Reach, one, more}
use Rattle.graph.proofs.Ring.{left_out_ring, ring_left_out}
use Rattle.kinds.specs.Kinds.{input_kind, output_kind, kind_at}
use Rattle.netlist.specs.Netlist.{Run, Cell, Netlist}
use Rattle.netlist.specs.Rules.{runless, widths_of, valid}
use Rattle.cells.specs.Operands.{cell_reads}
use Rattle.placing.specs.Placing.{no_cell, cell_at, reads_of, Ringed, apart, ringed}
use Rattle.placing.proofs.Sound.{Wide, valid_cell, wide_no_output, read_wide}

-- an operand that a kind does not have reads nothing
runless_none : (rs : List Run) → runless rs ≡ true → rs ≡ []
runless_none [] h = refl
runless_none (r ∷ rs) h = never_both h (lib.Dec.eqb-suc-zero (length rs))

-- a row that is not there reads nothing
past_cell : (cs : List Cell) (row : ℕ) → length cs ≤ row → get_or cs row no_cell ≡ no_cell
past_cell cs row h = lib.ListN.get_or-eq_default cs no_cell h

module _ (N : Netlist) (v : valid N ≡ true) where
  abbrev count : ℕ
  count = length N.cells

  pub read_below : (i j : ℕ) → i < count → mem j (reads_of N i) ≡ true → j < count
  read_below i j l m = omega (arith, (read_wide N v i l j m).below, length-map N.cells (λ (c : Cell). c.width))

  -- an input reads nothing
  input_reads : (i : ℕ) → i < count → eqb (cell_at N i).kind input_kind ≡ true → reads_of N i ≡ []
  unfolding cell_reads joined kind_at
  input_reads i l e =
      let c = cell_at N i in
      let h = valid_cell N v i l in
      let k = eqb-true c.kind input_kind e in
      let a = runless_none c.a (rw k at (fact _ h 4)) in
      let b = runless_none c.b (rw k at (fact _ h 5)) in
      let d = runless_none c.c (rw k at (fact _ h 6)) in
      rw (a, b, d)

  past_reads : (i j : ℕ) → count ≤ i → mem j (reads_of N i) ≡ false
  unfolding cell_reads joined mem
  past_reads i j l = rw (past_cell N.cells i l)

  reads_wide : (i j : ℕ) → mem j (reads_of N i) ≡ true → Wide (widths_of N.cells) j
  reads_wide i j m = go (dec_lt i count)
    where
      go : Dec (i < count) → Wide (widths_of N.cells) j
      go (yes l) = read_wide N v i l j m
      go (no l) = never_both m (past_reads i j (omega arith))

  reached_wide : {i j : ℕ} → Reach (reads_of N) i j → Wide (widths_of N.cells) j
  reached_wide (one {i} {j} m) = reads_wide i j m
  reached_wide (more e p) = reached_wide p

  reaching_reads : {i j : ℕ} → Reach (reads_of N) i j → reads_of N i ≡ [] → ⊥
  unfolding mem
  reaching_reads (one {i} {j} m) e = never_both (subst (λ (l : List ℕ). mem j l ≡ true) e m) refl
  reaching_reads (more {i} {j} {k} m p) e = never_both (subst (λ (l : List ℕ). mem j l ≡ true) e m) refl

  -- inputs and outputs lie on no ring
  apart_free : (i : ℕ) → apart N i ≡ true → Reach (reads_of N) i i → ⊥
  apart_free i h r =
      let w = reached_wide r in
      let l : i < count = omega (arith, w.below, length-map N.cells (λ (c : Cell). c.width)) in
      ⊎_elim (λ e. reaching_reads r (input_reads i l e)) (λ e. never_both e (wide_no_output N v i w)) (or_true (eqb (cell_at N i).kind input_kind) (eqb (cell_at N i).kind output_kind) h)

  -- 20 IS TOLD EXACTLY WHERE A RING IS
  pub ringed_ring : ringed N ≡ true → Ringed N
  unfolding ringed
  ringed_ring h = left_out_ring (reads_of N) count (apart N) read_below h

  pub ring_ringed : Ringed N → ringed N ≡ true
  unfolding ringed
  ring_ringed r = ring_left_out (reads_of N) count (apart N) apart_free r
