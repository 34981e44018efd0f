-- Sound tables, worked out: what each step of the evaluation asks, and what the steps give together.
use Prim.Native.Nat.{ℕ, zero, suc, ◌<◌, ◌≤◌}
use mathlib.Core.Path.{◌≡◌, refl, sym, ap, ◌∙◌, subst}
use mathlib.Core.List.{List}
use native.Mathlib.Omega.{arith}
use lib.ListN.{length, drop, get_or, replicate, length-replicate, get_or-append}
use lib.Seq.{sets, length-sets}
use Rattle.ground.specs.Regions.{zeros, over}
use Rattle.ground.specs.Writes.{Put}
use Rattle.ground.proofs.Lent.{sets_front}
use Rattle.ground.proofs.Regions.{length_zeros}
use Rattle.netlist.specs.Netlist.{Run}
use Rattle.cells.specs.Held.{held_bits}
use Rattle.assigning.specs.Rows.{width_in, rows_total, starts_from, assigned_in}
use Rattle.assigning.proofs.Laws.{total_last, starts_at, starts_length}
use Rattle.assigning.proofs.Places.{assigned_length}
use Rattle.valuing.specs.Row.{RowSound}
use Rattle.evaluating.specs.InTables.{settled_in, outputs_in, starts_in, evaluation_in}
use Rattle.evaluating.specs.Sound.{TableSound}

pub starts_in_lem : (cells : List ℕ) (n : ℕ) → n ≤ 512 → (j : ℕ) → j < n → get_or (starts_in cells n) j 0 ≡ rows_total width_in j cells
unfolding over
starts_in_lem cells n few j l =
    let x = starts_from 0 n cells in
    let k = starts_length n 0 cells in
    ap (λ (s : List ℕ). get_or s j 0) (sets_front (zeros 512) x (omega (arith, k, length_zeros 512, few)))
    ∙ get_or-append x (drop (length x) (zeros 512)) 0 j (omega (arith, k, l))
    ∙ starts_at n 0 cells j l ∙ omega arith

total_upto : (f : List ℕ → ℕ) (j n : ℕ) (rows : List ℕ) → j ≤ n → rows_total f j rows ≤ rows_total f n rows
unfolding rows_total
total_upto f zero n rows h = omega arith
total_upto f (suc j) zero rows h = absurd (omega arith)
total_upto f (suc j) (suc n) rows h = omega (arith, total_upto f j n (drop 9 rows) (omega arith))

module _ {cells : List ℕ} {pool : List Run} {n : ℕ} (t : TableSound cells pool n) where
  row_sound : (row : ℕ) → row < n → RowSound cells pool (starts_in cells n) row
  row_sound row h = record {
    cells_long = t.cells_long;
    starts_long = length-sets (zeros 512) 0 (starts_from 0 n cells) ∙ length_zeros 512;
    below = omega (arith, h, t.few);
    room = omega (arith, starts_in_lem cells n t.few row h, total_last width_in row cells, total_upto width_in (suc row) n cells h, t.bits);
    narrow = t.narrow row h;
  }

  pub rows_sound : (starts order : List ℕ) (count : ℕ) → starts ≡ starts_in cells n → ((i : ℕ) → i < count → get_or order i 0 < n) → (i : ℕ) → i < count → RowSound cells pool starts (get_or order i 0)
  rows_sound starts order count e below i h = subst (λ (s : List ℕ). RowSound cells pool s (get_or order i 0)) (sym e) (row_sound (get_or order i 0) (below i h))

  pub few_outputs : (held : ℕ → List ℕ) (answer : List ℕ) → length answer ≡ 4096 → length (outputs_in n cells pool held) ≤ length answer
  few_outputs held answer l = omega (arith, t.outputs held, l)

pub values_long : (n : ℕ) (cells ins values : List ℕ) → values ≡ assigned_in n cells ins 0 0 (zeros 4096) → length values ≡ 4096
values_long n cells ins values e = ap length e ∙ assigned_length n cells ins 0 0 (zeros 4096) ∙ length_zeros 4096

-- THE STEPS TOGETHER
pub together : (cells : List ℕ) (pool : List Run) (n : ℕ) (order ins starts first values old new : List ℕ) (r : ℕ) → starts ≡ starts_in cells n → first ≡ assigned_in n cells ins 0 0 (zeros 4096)
    → values ≡ settled_in order cells pool starts first → Put old 0 (outputs_in n cells pool (held_bits starts values)) r new → Put old 0 (evaluation_in cells pool n order ins) r new
unfolding evaluation_in
together cells pool n order ins starts first values old new r s f v p =
    let e : values ≡ settled_in order cells pool (starts_in cells n) (assigned_in n cells ins 0 0 (zeros 4096)) = rw (← s, ← f) v in
    rw (← e, ← s) p

-- arrays begin as zeros
pub starts_begin : (cells starts : List ℕ) (n : ℕ) → starts ≡ sets (replicate 512 0) 0 (starts_from 0 n cells) → starts ≡ starts_in cells n
unfolding zeros
starts_begin cells starts n e = e

pub values_begin : (cells ins values : List ℕ) (n : ℕ) → values ≡ assigned_in n cells ins 0 0 (replicate 4096 0) → values ≡ assigned_in n cells ins 0 0 (zeros 4096)
unfolding zeros
values_begin cells ins values n e = e

pub rows_begin : replicate 512 0 ≡ zeros 512
unfolding zeros
rows_begin = refl

-- at most 4,096 output bits
pub evaluation_few : {cells : List ℕ} {pool : List Run} {n : ℕ} → TableSound cells pool n → (order ins : List ℕ) → length (evaluation_in cells pool n order ins) ≤ 4096
unfolding evaluation_in
evaluation_few t order ins = t.outputs _

pub answer_long : length (replicate {A = ℕ} 4096 0) ≡ 4096
answer_long = length-replicate {A = ℕ} 4096 0
