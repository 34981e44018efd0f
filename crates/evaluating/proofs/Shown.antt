-- The evaluation by the words of good tables is the evaluation of the netlist that they show.
use mathlib.Core.Path.{◌≡◌, refl, ap, ap₂, ◌∙◌, sym}
use mathlib.Core.Bool.{Bool, true, false}
use mathlib.Core.Logic.{⊎_elim}
use mathlib.Core.List.{List, [], ◌∷◌, ◌++◌}
use Prim.Native.Nat.{ℕ, zero, suc, ◌+◌, ◌*◌, ◌<◌, ◌≤◌}
use native.Mathlib.Omega.{arith}
use lib.Dec.{eqb}
use lib.ListN.{length, get_or, take, drop, length-append, get_or-append}
use Rattle.ground.specs.Choice.{pick}
use Rattle.ground.specs.Lists.{total, joined}
use Rattle.ground.specs.Regions.{zeros, over, part}
use Rattle.ground.proofs.Bools.{never_both, and_true, or_true}
use Rattle.ground.proofs.Lent.{sets_front}
use Rattle.ground.proofs.Regions.{length_zeros}
use Rattle.graph.proofs.Order.{order_placing}
use Rattle.kinds.specs.Kinds.{input_kind, output_kind}
use Rattle.netlist.specs.Netlist.{Run, Cell, Netlist, operand_width}
use Rattle.netlist.specs.Rules.{output_bits, valid}
use Rattle.netlist.specs.Tables.{Tables}
use Rattle.netlist.specs.View.{cell_in, cells_in, pool_in, view}
use Rattle.netlist.specs.Good.{laid, good}
use Rattle.netlist.proofs.Laying.{valid_roomy}
use Rattle.cells.specs.Held.{held_bits}
use Rattle.cells.specs.Operands.{bits_from}
use Rattle.cells.specs.Values.{cell_value}
use Rattle.cells.proofs.Linking.{length_bits}
use Rattle.placing.specs.Placing.{no_cell, cell_at, reads_of, input_width, input_start, input_bits, output_from, outputs_from, apart, placing_of, ringed}
use Rattle.assigning.specs.Rows.{width_in, input_in, rows_total, starts_from, assigned_in}
use Rattle.assigning.proofs.Laws.{total_last, starts_at, starts_length}
use Rattle.assigning.proofs.Shown.{cells_length, cells_at, cells_front, cells_total}
use Rattle.assigning.proofs.Places.{assigned_length, assigned_at}
use Rattle.evaluating.specs.Settled.{Setting}
use Rattle.evaluating.specs.Evaluation.{assigned, evaluation}
use Rattle.valuing.specs.Row.{cell_of}
use Rattle.evaluating.specs.InTables.{settled_in, outputs_in, starts_in, evaluation_in}
use Rattle.evaluating.proofs.Settles.{all_placed_lem}
use Rattle.evaluating.proofs.Held.{Held, held_same, output_same, values_held}

-- OUTPUTS, row after row
pub outputs_shown : (T : Tables) (pool : List Run) (u : Setting) (n : ℕ) (rows : List ℕ) → outputs_in n rows pool u ≡ joined (output_from u) (cells_in T pool n rows)
unfolding outputs_in joined cells_in
outputs_shown T pool u zero rows = refl
outputs_shown T pool u (suc n) rows = ap (λ (l : List ℕ). output_from u (cell_of pool rows) ++ l) (outputs_shown T pool u n (drop 9 rows))

pub joined_same : (u v : Setting) (cs : List Cell) → ((i : ℕ) → i < length cs → output_from u (get_or cs i no_cell) ≡ output_from v (get_or cs i no_cell)) → joined (output_from u) cs ≡ joined (output_from v) cs
unfolding joined
joined_same u v [] h = refl
joined_same u v (c ∷ cs) h = ap₂ (λ (a b : List ℕ). a ++ b) (h 0 (omega arith)) (joined_same u v cs (λ i l. h (suc i) (omega arith)))

-- as many as the rules count
joined_length : (u : Setting) (cs : List Cell) → length (joined (output_from u) cs) ≡ total output_bits cs
unfolding joined total
joined_length u [] = refl
joined_length u (c ∷ cs) = length-append (output_from u c) (joined (output_from u) cs) ∙ ap₂ (λ (a b : ℕ). a + b) (one (eqb c.kind output_kind)) (joined_length u cs)
  where
    one : (b : Bool) → length (pick b (bits_from u c.a) []) ≡ pick b (operand_width c.a) 0
    one true = length_bits u c.a
    one false = refl

module _ (T : Tables) (g : good T ≡ true) where
  abbrev N : Netlist
  N = view T

  abbrev n : ℕ
  n = T.cell_count

  abbrev cells : List ℕ
  cells = T.cells

  abbrev pool : List Run
  pool = pool_in T

  pub is_valid : valid N ≡ true
  unfolding good
  is_valid = (and_true (laid N T) (valid N) g).1

  pub count_is : length N.cells ≡ n
  unfolding view
  count_is = cells_length T pool n cells

  pub cell_is : (j : ℕ) → j < length N.cells → cell_at N j ≡ cell_in T pool (drop (j * 9) cells)
  unfolding view
  cell_is j l = cells_at T pool n cells no_cell j (omega (arith, cells_length T pool n cells))

  pub widths_are : rows_total width_in n cells ≤ 4096
  unfolding view
  widths_are = let r : total (λ (c : Cell). c.width) N.cells ≤ 4096 = (valid_roomy N is_valid).bits in omega (arith, r, cells_total T pool (λ (c : Cell). c.width) width_in (λ row. refl) n cells)

  pub inputs_are : input_bits N ≡ rows_total input_in n cells
  unfolding view
  inputs_are = cells_total T pool input_width input_in (λ row. refl) n cells

  inputs_before : (j : ℕ) → j < length N.cells → input_start N j ≡ rows_total input_in j cells
  unfolding view
  inputs_before j l = ap (total input_width) (cells_front T pool n cells j (omega (arith, cells_length T pool n cells))) ∙ cells_total T pool input_width input_in (λ row. refl) j cells

  abbrev pub start : ℕ → ℕ
  start j = rows_total width_in j cells

  pub next : (j : ℕ) → j < length N.cells → start (suc j) ≡ start j + (cell_at N j).width
  next j l = total_last width_in j cells ∙ ap (λ (c : Cell). start j + c.width) (sym (cell_is j l))

  pub most : start (length N.cells) ≤ 4096
  most = rw count_is widths_are

  few : n ≤ 512
  few = let r : length N.cells ≤ 512 = (valid_roomy N is_valid).cells in omega (arith, r, count_is)

  pub begin : (j : ℕ) → j < length N.cells → get_or (starts_in cells n) j 0 ≡ start j
  unfolding over
  begin j l =
      let x = starts_from 0 n cells in
      let k = starts_length n 0 cells in
      ap (λ (s : List ℕ). get_or s j 0) (sets_front (zeros 512) x (omega (arith, k, length_zeros 512, few)))
      ∙ get_or-append x (drop (length x) (zeros 512)) 0 j (omega (arith, k, l, count_is))
      ∙ starts_at n 0 cells j (omega (arith, l, count_is)) ∙ omega arith

  shown : (u : Setting) (j : ℕ) → j < length N.cells → cell_value u (cell_of pool (drop (j * 9) cells)) ≡ cell_value u (cell_at N j)
  unfolding cell_value
  shown u j l = rw (cell_is j l)

  width : (j : ℕ) → j < length N.cells → width_in (drop (j * 9) cells) ≡ (cell_at N j).width
  width j l = ap (λ (c : Cell). c.width) (sym (cell_is j l))

  -- THE INPUTS are assigned
  module _ (ins : List ℕ) (fit : length ins ≡ input_bits N) where
    abbrev pub first : List ℕ
    first = assigned_in n cells ins 0 0 (zeros 4096)

    input_held : (j : ℕ) → j < length N.cells → eqb (cell_at N j).kind input_kind ≡ true → part (start j) (cell_at N j).width first ≡ assigned N ins j
    unfolding assigned
    input_held j l e =
        let c = cell_is j l in
        let k : eqb (get_or (drop (j * 9) cells) 0 0) input_kind ≡ true = rw c at e in
        let a = assigned_at n cells ins 0 0 (zeros 4096) (omega (arith, widths_are, length_zeros 4096)) (omega (arith, fit, inputs_are)) j (omega (arith, l, count_is)) k in
        let z : 0 + start j ≡ start j = omega arith in
        let y : 0 + rows_total input_in j cells ≡ input_start N j = omega (arith, inputs_before j l) in
        rw e (ap (λ (x : Cell). part (start j) x.width first) c ∙ (rw (z, y) at a) ∙ ap (λ (x : Cell). part (input_start N j) x.width ins) (sym c))

    pub held_first : Held N is_valid start next 4096 most (apart N) (assigned N ins) first
    held_first = record {
      long = assigned_length n cells ins 0 0 (zeros 4096) ∙ length_zeros 4096;
      holds = λ j l p o. ⊎_elim (λ e. input_held j l e) (λ e. never_both e o) (or_true (eqb (cell_at N j).kind input_kind) (eqb (cell_at N j).kind output_kind) p);
    }

    -- THE EVALUATION
    pub evaluation_shown : ringed N ≡ false → evaluation_in cells pool n (placing_of N) ins ≡ evaluation N ins
    unfolding evaluation_in evaluation outputs_from placing_of view
    evaluation_shown free =
        let k = values_held N is_valid start next 4096 most (starts_in cells n) begin cells pool shown width ins (order_placing (reads_of N) (length N.cells) (apart N)).run (λ j t. t) (assigned N ins) first held_first in
        let values = settled_in (placing_of N) cells pool (starts_in cells n) first in
        outputs_shown T pool (held_bits (starts_in cells n) values) n cells
        ∙ joined_same (held_bits (starts_in cells n) values) _ N.cells
        (λ i l. output_same N is_valid (held_bits (starts_in cells n) values) _ i l
        (λ j w m. held_same N is_valid start next 4096 most (starts_in cells n) begin k j w (all_placed_lem N is_valid ins free j (omega (arith, w.below, lib.ListN.length-map N.cells (λ (c : Cell). c.width))))))

  -- at most 4,096 output bits, whatever the values
  pub outputs_few : (u : Setting) → length (outputs_in n cells pool u) ≤ 4096
  unfolding view
  outputs_few u = let r : total output_bits N.cells ≤ 4096 = (valid_roomy N is_valid).outputs in omega (arith, r, ap length (outputs_shown T pool u n cells), joined_length u (cells_in T pool n cells))
