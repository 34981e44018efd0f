-- Runs in their table, and runs as text, one after the other.
use Prim.Native.Nat.{ℕ, zero, suc, ◌+◌, ◌-◌, ◌*◌, ◌<◌, ◌≤◌, min}
use mathlib.Core.Path.{◌≡◌, refl, sym, ap, ◌∙◌}
use mathlib.Core.Bool.{Bool, true, false}
use mathlib.Core.List.{List, [], ◌∷◌, ◌++◌}
use native.Mathlib.Omega.{arith}
use native.Mathlib.Numerals.{add-one}
use lib.Dec.{eqb}
use lib.ListN.{length, take, drop, get_or, length-take, length-drop}
use lib.Seq.{get_or-take, drop-drop}
use borrow.Author.Tests.{eq-eqb, ne_eqb}
use Rattle.ground.specs.Choice.{pick}
use Rattle.ground.specs.Regions.{part}
use Rattle.netlist.specs.Netlist.{Run, const, piece}
use Rattle.netlist.specs.Tables.{Tables}
use Rattle.netlist.specs.View.{run_in, runs_in}
use Rattle.writing.specs.Parts.{up_to}
use Rattle.writing.specs.Stands.{Wrote, Leaves}
use Rattle.writing.proofs.Stands.{step, ended, same_rest}
use Rattle.writing.proofs.Parts.{up_start, up_none}
use Rattle.netlist.proofs.Runs.{runs_at, runs_length}
use Rattle.operands.specs.Operands.{run, runs, more_runs, operand, holding, held_runs}

-- a row is its first three words
pub run_row : (T : Tables) (rs : List ℕ) → run_in T (take 3 rs) ≡ run_in T rs
run_row T rs = rw (get_or-take 3 rs 0 0 (omega arith), get_or-take 3 rs 1 0 (omega arith), get_or-take 3 rs 2 0 (omega arith))

-- the first of some runs of the table
pub first_run : (rows trits row : List ℕ) (i e : ℕ) → i < e → e ≤ 4096 → row ≡ take 3 (drop (i * 3) rows)
    → up_to i e (held_runs rows trits) ≡ run_in (holding trits) row ∷ up_to (i + 1) e (held_runs rows trits)
unfolding up_to held_runs
first_run rows trits row i e h l r =
    let f : e - i ≡ suc (e - (i + 1)) = omega arith in
    rw (f, r, runs_at (holding trits) 4096 i rows (omega arith), run_row (holding trits) (drop (i * 3) rows))

module _ (numbers widths : List ℕ) where
  pub runs_more : (r : Run) (rs : List Run) (k : List ℕ) → runs numbers widths (r ∷ rs) k ≡ run numbers widths r (more_runs numbers widths rs k)
  unfolding runs more_runs
  runs_more r [] k = refl
  runs_more r (q ∷ rs) k = ap (λ (t : List ℕ). run numbers widths r (32 ∷ t)) (runs_more q rs k)

  module _ (rows trits : List ℕ) (i e : ℕ) where
    module _ {l l' : List ℕ} {n n' : ℕ} {f : List ℕ → List ℕ} where
      pub runs_turn : {l'' : List ℕ} {n'' : ℕ} (row : List ℕ) → Leaves l n f l' n' (more_runs numbers widths (up_to i e (held_runs rows trits))) → i < e → e ≤ 4096 → row ≡ take 3 (drop (i * 3) rows)
          → Wrote l' n' (λ k. 32 ∷ run numbers widths (run_in (holding trits) row) k) l'' n'' → Leaves l n f l'' n'' (more_runs numbers widths (up_to (i + 1) e (held_runs rows trits)))
      unfolding more_runs
      runs_turn row w h m r p = step (more_runs numbers widths (up_to (i + 1) e (held_runs rows trits))) (same_rest w (λ k. rw (first_run rows trits row i e h m r))) p

      pub runs_end : Leaves l n f l' n' (more_runs numbers widths (up_to i e (held_runs rows trits))) → e ≤ i → Wrote l n f l' n'
      unfolding more_runs
      runs_end w h = ended w (λ k. rw (up_none i e (held_runs rows trits) h))

    pub some_runs : (row : List ℕ) → i < e → e ≤ 4096 → row ≡ take 3 (drop (i * 3) rows) → (k : List ℕ)
        → run numbers widths (run_in (holding trits) row) (more_runs numbers widths (up_to (i + 1) e (held_runs rows trits)) k) ≡ runs numbers widths (up_to i e (held_runs rows trits)) k
    some_runs row h m r k = rw (first_run rows trits row i e h m r) (sym (runs_more _ _ k))

    pub none_runs : e ≤ i → (k : List ℕ) → k ≡ runs numbers widths (up_to i e (held_runs rows trits)) k
    unfolding runs
    none_runs h k = rw (up_none i e (held_runs rows trits) h)

    held_length : e ≤ 4096 → length (up_to i e (held_runs rows trits)) ≡ e - i
    unfolding up_to held_runs
    held_length h = simp (length-take, length-drop, runs_length) (omega arith)

    -- an operand of one run, and of none or more
    module _ (size : ℕ) (h : e ≡ min (i + size) 4096) where
      from : part i size (held_runs rows trits) ≡ up_to i e (held_runs rows trits)
      unfolding held_runs
      from = up_start i size e (held_runs rows trits) (h ∙ rw (runs_length (holding trits) 4096 rows))

      pub operand_one : i + 1 ≡ e → (k : List ℕ) → runs numbers widths (up_to i e (held_runs rows trits)) k ≡ operand numbers widths (part i size (held_runs rows trits)) k
      operand_one o k =
          let m : e - i ≡ 1 = omega arith in
          rw (from, held_length (omega arith), eq-eqb (e - i) 1 m)

      pub operand_more : (i + 1 ≡ e → ⊥) → (k : List ℕ) → 91 ∷ runs numbers widths (up_to i e (held_runs rows trits)) (93 ∷ k) ≡ operand numbers widths (part i size (held_runs rows trits)) k
      operand_more o k = rw (from, held_length (omega arith), ne_eqb (e - i) 1 (λ m. o (omega arith)))

-- the three words that are lent of a row
pub slice_row : (rows : List ℕ) (k : ℕ) → take (k + 3 - k) (drop k rows) ≡ take 3 (drop k rows)
slice_row rows k = let e : k + 3 - k ≡ 3 = omega arith in rw e

pub slice_three : (rows : List ℕ) (k : ℕ) → k + 3 ≤ length rows → length (take (k + 3 - k) (drop k rows)) ≡ 3
slice_three rows k h = simp (length-take, length-drop) (omega arith)
