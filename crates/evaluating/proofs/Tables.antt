-- Good tables have what the evaluation asks.
use Prim.Native.Nat.{ℕ, zero, suc, ◌+◌, ◌*◌, ◌<◌, ◌≤◌}
use mathlib.Core.Path.{◌≡◌, refl, sym, ap, subst}
use mathlib.Core.Bool.{true, ◌&&◌}
use mathlib.Core.List.{List, ◌∷◌}
use native.Mathlib.Omega.{arith}
use lib.Dec.{eqb}
use lib.ListN.{length, drop}
use borrow.Author.Tests.{eqb-true}
use Rattle.ground.proofs.Bools.{and_true}
use Rattle.kinds.specs.Kinds.{Kind, wide, alike, all_alike, compared, mux, adc, output, kind_at}
use Rattle.kinds.proofs.Widths.{Fits, wide_is, each_kind}
use Rattle.netlist.specs.Netlist.{Run, Cell, operand_width}
use Rattle.netlist.specs.Rules.{widths_of}
use Rattle.netlist.specs.Tables.{Tables}
use Rattle.netlist.specs.View.{run_in, runs_in, pool_in, view}
use Rattle.netlist.specs.Good.{good}
use Rattle.netlist.proofs.Laying.{Long, valid_roomy}
use Rattle.netlist.proofs.Lengths.{cell_fits}
use Rattle.cells.specs.Held.{holding, held_runs}
use Rattle.placing.specs.Placing.{cell_at}
use Rattle.placing.proofs.Sound.{valid_cell}
use Rattle.assigning.specs.Rows.{width_in, input_in, rows_total}
use Rattle.assigning.proofs.Laws.{input_narrow}
use Rattle.valuing.specs.Row.{Narrow}
use Rattle.evaluating.specs.Sound.{TableSound}
use Rattle.evaluating.proofs.Shown.{is_valid, count_is, cell_is, widths_are, outputs_few}

-- EACH OPERAND has at most 256 bits
abbrev Slim : Kind → Type 0
Slim k = (w a b c : ℕ) → Fits k w a b c → (a ≤ 256) × (b ≤ 256) × (c ≤ 256)

alike_slim : (w a b c : ℕ) → alike w a b c ≡ true → a ≤ 256
alike_slim w a b c h = let r = and_true (wide w) (eqb a w) h in omega (arith, wide_is w r.0, eqb-true a w r.1)

all_slim : (w a b c : ℕ) → all_alike w a b c ≡ true → (a ≤ 256) × (b ≤ 256)
all_slim w a b c h =
    let r = and_true (wide w) (eqb a w && eqb b w) h in
    let s = and_true (eqb a w) (eqb b w) r.1 in
    (omega (arith, wide_is w r.0, eqb-true a w s.0), omega (arith, wide_is w r.0, eqb-true b w s.1))

compared_slim : (w a b c : ℕ) → compared w a b c ≡ true → (a ≤ 256) × (b ≤ 256)
compared_slim w a b c h =
    let r = and_true (eqb w 1) (wide a && eqb b a) h in
    let s = and_true (wide a) (eqb b a) r.1 in
    (omega (arith, wide_is a s.0), omega (arith, wide_is a s.0, eqb-true b a s.1))

mux_slim : Slim mux
mux_slim w a b c f =
    let r = and_true (wide w) (eqb a 1 && (eqb b w && eqb c w)) f.widths in
    let s = and_true (eqb a 1) (eqb b w && eqb c w) r.1 in
    let t = and_true (eqb b w) (eqb c w) s.1 in
    (omega (arith, eqb-true a 1 s.0), omega (arith, wide_is w r.0, eqb-true b w t.0), omega (arith, wide_is w r.0, eqb-true c w t.1))

adc_slim : Slim adc
adc_slim w a b c f =
    let r = and_true (wide w) (wide a && (eqb b a && (eqb c 1 && eqb w (a + 1)))) f.widths in
    let s = and_true (wide a) (eqb b a && (eqb c 1 && eqb w (a + 1))) r.1 in
    let t = and_true (eqb b a) (eqb c 1 && eqb w (a + 1)) s.1 in
    let u = and_true (eqb c 1) (eqb w (a + 1)) t.1 in
    (omega (arith, wide_is a s.0), omega (arith, wide_is a s.0, eqb-true b a t.0), omega (arith, eqb-true c 1 u.0))

output_slim : Slim output
output_slim w a b c f =
    let r = and_true (eqb w 0) (wide a) f.widths in
    (omega (arith, wide_is a r.1), omega (arith, f.second (omega arith)), omega (arith, f.third (omega arith)))

slim : (n w a b c : ℕ) → Fits (kind_at n) w a b c → (a ≤ 256) × (b ≤ 256) × (c ≤ 256)
slim n =
    each_kind Slim
    (λ w a b c f. (omega (arith, f.first (omega arith)), omega (arith, f.second (omega arith)), omega (arith, f.third (omega arith))))
    output_slim
    (λ w a b c f. (alike_slim w a b c f.widths, omega (arith, f.second (omega arith)), omega (arith, f.third (omega arith))))
    (λ w a b c f. (alike_slim w a b c f.widths, omega (arith, f.second (omega arith)), omega (arith, f.third (omega arith))))
    (λ v w a b c f. let p = all_slim w a b c f.widths in (p.0, p.1, omega (arith, f.third (omega arith))))
    mux_slim adc_slim
    (λ w a b c f. let p = compared_slim w a b c f.widths in (p.0, p.1, omega (arith, f.third (omega arith))))
    (λ v w a b c f. let p = compared_slim w a b c f.widths in (p.0, p.1, omega (arith, f.third (omega arith))))
    (λ w a b c f. (omega (arith, f.first (omega arith)), omega (arith, f.second (omega arith)), omega (arith, f.third (omega arith)))) n

-- no more input bits than bits
inputs_fewer : (n : ℕ) (rows : List ℕ) → rows_total input_in n rows ≤ rows_total width_in n rows
unfolding rows_total
inputs_fewer zero rows = omega arith
inputs_fewer (suc n) rows = omega (arith, input_narrow rows, inputs_fewer n (drop 9 rows))

-- a run is read by the trits of runs alone
runs_held : (T : Tables) (n : ℕ) (rows : List ℕ) → runs_in T n rows ≡ runs_in (holding T.run_bits) n rows
unfolding runs_in
runs_held T zero rows = refl
runs_held T (suc n) rows = ap (λ (l : List Run). run_in T rows ∷ l) (runs_held T n (drop 3 rows))

pub pool_held : (T : Tables) → held_runs T.runs T.run_bits ≡ pool_in T
unfolding held_runs
pool_held T = sym (runs_held T 4096 T.runs)

module _ (T : Tables) (l : Long T) (g : good T ≡ true) where
  row_narrow : (row : ℕ) → row < T.cell_count → Narrow (pool_in T) (drop (row * 9) T.cells)
  row_narrow row h =
      let N = view T in
      let b : row < length N.cells = omega (arith, h, count_is T g) in
      let f = cell_fits (widths_of N.cells) (length N.metas) (cell_at N row) (valid_cell N (is_valid T g) row b) in
      let e = cell_is T g row b in
      let s = slim (cell_at N row).kind (cell_at N row).width (operand_width (cell_at N row).a) (operand_width (cell_at N row).b) (operand_width (cell_at N row).c) f in
      record {
        a = subst (λ (c : Cell). operand_width c.a ≤ 256) e s.0;
        b = subst (λ (c : Cell). operand_width c.b ≤ 256) e s.1;
        c = subst (λ (c : Cell). operand_width c.c ≤ 256) e s.2;
      }

  sound_pool : TableSound T.cells (pool_in T) T.cell_count
  sound_pool = record {
    cells_long = l.cells;
    few = omega (arith, count_is T g, (valid_roomy (view T) (is_valid T g)).cells);
    bits = widths_are T g;
    inputs = omega (arith, inputs_fewer T.cell_count T.cells, widths_are T g);
    narrow = row_narrow;
    outputs = outputs_few T g;
  }

  -- GOOD TABLES ARE SOUND
  pub sound_tables : TableSound T.cells (held_runs T.runs T.run_bits) T.cell_count
  sound_tables = rw (pool_held T) sound_pool
