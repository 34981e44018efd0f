-- The entry of the evaluation: lent tables that are good, cut into their regions.
use Rattle.ground.specs.declared.Refusal.{Refusal}
use Rattle.std.specs.Prelude.{Result, Err}
use Prim.Native.Nat.{ℕ, ◌≤◌}
use mathlib.Core.Path.{◌≡◌, sym, ap, subst, ◌∙◌}
use mathlib.Core.Bool.{true, false}
use mathlib.Core.List.{List}
use native.Mathlib.Omega.{arith}
use lib.ListN.{length, take, drop, get_or, length-take, length-drop}
use Rattle.ground.specs.Refusals.{at, refusal}
use Rattle.ground.specs.Regions.{zeros, part}
use Rattle.ground.proofs.Regions.{length_zeros}
use Rattle.netlist.specs.Tables.{Tables, tables_in}
use Rattle.netlist.specs.View.{view}
use Rattle.netlist.specs.Good.{good, netlist_in}
use Rattle.netlist.proofs.Laying.{Long}
use Rattle.loadlist.specs.Run.{assigns}
use Rattle.cells.specs.Held.{held_runs}
use Rattle.placing.specs.Placing.{ringed, input_bits}
use Rattle.placing.specs.InTables.{Inside, order_in, ring_in}
use Rattle.placing.proofs.Tabled.{good_inside, good_order, good_ring}
use Rattle.assigning.specs.Rows.{input_in, rows_total}
use Rattle.evaluating.specs.Evaluation.{evaluation}
use Rattle.evaluating.specs.Outcome.{Outcome, made, evaluated_of}
use Rattle.evaluating.specs.InTables.{evaluation_in}
use Rattle.evaluating.specs.Sound.{TableSound}
use Rattle.evaluating.specs.Answered.{Answers, Given}
use Rattle.evaluating.proofs.Shown.{inputs_are, evaluation_shown}
use Rattle.evaluating.proofs.Tables.{pool_held, sound_tables}
use Rattle.evaluating.proofs.Ways.{ring_way, unfit_way, given_way, answered_is}

clear_long : (work : List ℕ) → work ≡ zeros 8192 → length work ≡ 8192
clear_long work e = ap length e ∙ length_zeros 8192

-- THE WAYS OUT, where work space is clear before and after
module _ {cells runs trits : List ℕ} {n : ℕ} {ins outs work work' : List ℕ} (before : work ≡ zeros 8192) (after : work' ≡ zeros 8192) where
  pub ring_answer : ring_in cells runs n ≡ true → Answers cells runs trits n ins outs work (made (Err (refusal 20 (at 0))) outs work')
  ring_answer r = record { is = ring_way (ring_in cells runs n) (assigns (rows_total input_in n cells) ins) (evaluation_in cells (held_runs runs trits) n (order_in cells runs n) ins) outs work work' (clear_long work before) after r }

  pub unfit_answer : ring_in cells runs n ≡ false → assigns (rows_total input_in n cells) ins ≡ false → Answers cells runs trits n ins outs work (made (Err (refusal 23 (at 0))) outs work')
  unfit_answer r f = record { is = unfit_way (ring_in cells runs n) (assigns (rows_total input_in n cells) ins) (evaluation_in cells (held_runs runs trits) n (order_in cells runs n) ins) outs work work' (clear_long work before) after r f }

  pub given_answer : {order outs' : List ℕ} {e : Result ℕ Refusal} → order ≡ order_in cells runs n → ring_in cells runs n ≡ false → assigns (rows_total input_in n cells) ins ≡ true
      → Given (evaluation_in cells (held_runs runs trits) n order ins) outs e outs' → Answers cells runs trits n ins outs work (made e outs' work')
  given_answer {order} {outs'} {e} o r f g =
      record { is = given_way (ring_in cells runs n) (assigns (rows_total input_in n cells) ins) (evaluation_in cells (held_runs runs trits) n (order_in cells runs n) ins) outs work work' (clear_long work before) after e outs' r f (subst (λ (l : List ℕ). Given (evaluation_in cells (held_runs runs trits) n l ins) outs e outs') o g) }

module _ (T : Tables) (l : Long T) (g : good T ≡ true) (ins outs work : List ℕ) where
  bits_are : ringed (view T) ≡ false → length ins ≡ input_bits (view T)
      → evaluation_in T.cells (held_runs T.runs T.run_bits) T.cell_count (order_in T.cells T.runs T.cell_count) ins ≡ evaluation (view T) ins
  bits_are free fit = rw (pool_held T, good_order T l g) (evaluation_shown T g ins fit free)

  pub tables_answer : (o : Outcome) → Answers T.cells T.runs T.run_bits T.cell_count ins outs work o → o ≡ evaluated_of (view T) ins outs work
  tables_answer o a =
      a.is ∙ answered_is (view T) ins _ _ _ outs work (good_ring T l g) (ap (λ (k : ℕ). assigns k ins) (sym (inputs_are T g))) bits_are

-- TABLES THAT WERE CHECKED
module _ (rows strings bits : List ℕ) (r : 26307 ≤ length rows) (s : 16384 ≤ length strings) (t : 393728 ≤ length bits) (g : good (tables_in rows strings bits) ≡ true) where
  long_in : Long (tables_in rows strings bits)
  unfolding tables_in part
  long_in = record {
    metas = simp (length-take, length-drop) (omega arith);
    members = simp (length-take, length-drop) (omega arith);
    ios = simp (length-take, length-drop) (omega arith);
    cells = simp (length-take, length-drop) (omega arith);
    runs = simp (length-take, length-drop) (omega arith);
    strings = simp length-take (omega arith);
    attr_bits = simp length-take (omega arith);
    run_bits = simp (length-take, length-drop) (omega arith);
  }

  abbrev cells : List ℕ
  cells = take 4608 (drop 9411 rows)

  abbrev runs : List ℕ
  runs = take 12288 (drop 14019 rows)

  abbrev trits : List ℕ
  trits = take 262656 (drop 131072 bits)

  module _ (n : ℕ) (q : n ≡ get_or rows 2 0) where
    pub cut_sound : TableSound cells (held_runs runs trits) n
    unfolding tables_in part
    cut_sound = subst (λ (k : ℕ). TableSound cells (held_runs runs trits) k) (sym q) (sound_tables (tables_in rows strings bits) long_in g)

    pub cut_inside : Inside cells runs n
    unfolding tables_in part
    cut_inside = subst (λ (k : ℕ). Inside cells runs k) (sym q) (good_inside (tables_in rows strings bits) long_in g)

    pub cut_answer : (ins outs work : List ℕ) (o : Outcome) → Answers cells runs trits n ins outs work o → o ≡ evaluated_of (netlist_in rows strings bits) ins outs work
    unfolding tables_in part
    cut_answer ins outs work o a =
        tables_answer (tables_in rows strings bits) long_in g ins outs work o (subst (λ (k : ℕ). Answers cells runs trits k ins outs work o) q a)
