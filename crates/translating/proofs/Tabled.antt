-- The translation by the words of good tables is the translation of the netlist that they show, and good tables have what it asks.
use Rattle.ground.specs.declared.Refusal.{Refusal}
use Rattle.std.specs.Prelude.{Result}
use mathlib.Core.Path.{◌≡◌, refl, ap, ap₂, ◌∙◌, sym, subst}
use mathlib.Core.Bool.{Bool, true, false}
use mathlib.Core.Logic.{⊎_elim}
use mathlib.Core.List.{List, [], ◌++◌}
use Prim.Native.Nat.{ℕ, ◌+◌, ◌-◌, ◌*◌, ◌<◌, ◌≤◌}
use native.Mathlib.Omega.{arith}
use lib.Dec.{eqb}
use lib.ListN.{length, get_or, take, drop, length-map, get_or-append}
use lib.Seq.{length-sets}
use Rattle.ground.specs.Lists.{up_from}
use Rattle.ground.specs.Regions.{zeros, pad}
use Rattle.ground.proofs.Bools.{never_both, or_true}
use Rattle.ground.proofs.Regions.{length_zeros}
use Rattle.ground.proofs.Counts.{length_up}
use Rattle.graph.specs.Graph.{mem}
use Rattle.graph.proofs.Order.{order_placing, placing_unmarked, order_below}
use Rattle.kinds.specs.Kinds.{input_kind, output_kind}
use Rattle.netlist.specs.Netlist.{Run, Cell, Netlist}
use Rattle.netlist.specs.Tables.{Tables}
use Rattle.netlist.specs.View.{pool_in, view}
use Rattle.netlist.specs.Good.{good}
use Rattle.netlist.proofs.Laying.{Long}
use Rattle.loadlist.specs.declared.Record.{Record}
use Rattle.cells.specs.Held.{held_runs, held_bits}
use Rattle.placing.specs.InTables.{order_in, ring_in, PlacedAll}
use Rattle.placing.specs.declared.Placed.{Placed as Ordered}
use Rattle.placing.proofs.Tabled.{good_inside, good_order, good_ring}
use Rattle.placing.specs.Placing.{cell_at, reads_of, input_width, input_start, input_bits, outputs_from, apart, placing_of, ringed}
use Rattle.assigning.specs.Rows.{width_in, input_in, rows_total, starts_from}
use Rattle.assigning.proofs.Shown.{cells_total}
use Rattle.evaluating.specs.Evaluation.{assigned}
use Rattle.valuing.specs.Row.{cell_of}
use Rattle.evaluating.specs.InTables.{starts_in}
use Rattle.evaluating.proofs.Settles.{all_placed_lem}
use Rattle.evaluating.proofs.Held.{Held, held_same, output_same, start_room}
use Rattle.evaluating.proofs.Shown.{outputs_shown, joined_same, is_valid, count_is, cell_is, inputs_are, next, most, begin, held_first}
use Rattle.ordering.proofs.Ordered.{member, ordered, ordered_few}
use Rattle.evaluating.proofs.Tables.{pool_held, sound_tables}
use Rattle.translating.specs.Translation.{Slots, constants, input_records, input_slots, cell_records, cell_slots, output_records, slots_of, translation, cell_sum, record_sum}
use Rattle.translating.specs.InTables.{row_sum, made_from, first_slots, row_records, row_slots, last_slots, translation_in}
use Rattle.translating.specs.Sound.{RowSound, OrderSound, Sound}
use Rattle.translating.specs.Answered.{Given}
use Rattle.translating.proofs.Counting.{translation_count}
use Rattle.translating.proofs.Ends.{total_within}
use Rattle.translating.proofs.Listing.{part_up}
use Rattle.translating.proofs.Outs.{made_length}
use Rattle.translating.proofs.HeldSlots.{Placed, placed}

module _ (T : Tables) (g : good T ≡ true) where
  abbrev N : Netlist
  N = view T

  abbrev n : ℕ
  n = T.cell_count

  abbrev cells : List ℕ
  cells = T.cells

  abbrev pool : List Run
  pool = pool_in T

  abbrev inputs : ℕ
  inputs = rows_total input_in n cells

  abbrev start : ℕ → ℕ
  start j = rows_total width_in j cells

  abbrev Holds : (ℕ → Bool) → Slots → List ℕ → Type 0
  Holds P v slots = Held N (is_valid T g) start (next T g) 4096 (most T g) P v slots

  -- the number of records
  pub sum_shown : 3 + rows_total (row_sum pool) n cells ≡ record_sum N
  unfolding record_sum row_sum view
  sum_shown = ap (λ (m : ℕ). 3 + m) (sym (cells_total T pool cell_sum (row_sum pool) (λ row. refl) n cells))

  fit : length (up_from 3 inputs) ≡ input_bits N
  fit = length_up inputs 3 ∙ sym (inputs_are T g)

  -- THE INPUTS have their slots
  input_slots_lem : (j : ℕ) → j < length N.cells → eqb (cell_at N j).kind input_kind ≡ true → assigned N (up_from 3 inputs) j ≡ input_slots N j
  unfolding assigned input_slots
  input_slots_lem j l e =
      let w : input_width (cell_at N j) ≡ (cell_at N j).width = rw e in
      let b : input_start N j + (cell_at N j).width ≤ inputs = omega (arith, total_within input_width N.cells j l, w, inputs_are T g) in
      rw (w, e) (part_up 3 inputs (input_start N j) (cell_at N j).width b)

  first_held : Holds (apart N) (input_slots N) (first_slots cells n)
  first_held =
      let h = held_first T g (up_from 3 inputs) fit in
      record {
        long = h.long;
        holds = λ j l p o. h.holds j l p o ∙ ⊎_elim (λ e. input_slots_lem j l e) (λ e. never_both e o) (or_true (eqb (cell_at N j).kind input_kind) (eqb (cell_at N j).kind output_kind) p);
      }

  shown : (u : Slots) (j k : ℕ) → j < length N.cells → made_from u (cell_of pool (drop (j * 9) cells)) k ≡ made_from u (cell_at N j) k
  unfolding made_from
  shown u j k l = rw (cell_is T g j l)

  abbrev rows_placed : Type 0
  rows_placed = Placed N (is_valid T g) start (next T g) 4096 (most T g) (starts_in cells n) (begin T g) cells pool shown (placing_of N) (order_placing (reads_of N) (length N.cells) (apart N)).marks (3 + inputs) (input_slots N) (first_slots cells n)

  rows_placed_lem : rows_placed
  unfolding placing_of
  rows_placed_lem =
      placed N (is_valid T g) start (next T g) 4096 (most T g) (starts_in cells n) (begin T g) cells pool shown
      (order_placing (reads_of N) (length N.cells) (apart N)).run (λ j t. t) (3 + inputs) (input_slots N) (first_slots cells n) first_held

  -- THE OUTPUTS
  outputs_same : ringed N ≡ false → last_slots cells pool n (placing_of N) ≡ outputs_from (cell_slots (placing_of N) N (3 + inputs) (input_slots N)) N
  unfolding outputs_from view
  outputs_same free =
      let slots = row_slots cells pool n (placing_of N) in
      let v = cell_slots (placing_of N) N (3 + inputs) (input_slots N) in
      outputs_shown T pool (held_bits (starts_in cells n) slots) n cells
      ∙ joined_same (held_bits (starts_in cells n) slots) v N.cells
      (λ i l. output_same N (is_valid T g) (held_bits (starts_in cells n) slots) v i l
      (λ j w m. held_same N (is_valid T g) start (next T g) 4096 (most T g) (starts_in cells n) (begin T g) rows_placed_lem.held j w
      (all_placed_lem N (is_valid T g) [] free j (omega (arith, w.below, length-map N.cells (λ (c : Cell). c.width))))))

  -- THE TRANSLATION
  pub translation_shown : ringed N ≡ false → translation_in cells pool n (placing_of N) ≡ translation N
  unfolding translation_in translation
  translation_shown free =
      let e : inputs ≡ input_bits N = sym (inputs_are T g) in
      let a : row_records cells pool n (placing_of N) ≡ cell_records (placing_of N) N (3 + input_bits N) (input_slots N) = rows_placed_lem.records ∙ ap (λ (i : ℕ). cell_records (placing_of N) N (3 + i) (input_slots N)) e in
      let b : last_slots cells pool n (placing_of N) ≡ outputs_from (slots_of N) N = outputs_same free ∙ ap (λ (i : ℕ). outputs_from (cell_slots (placing_of N) N (3 + i) (input_slots N)) N) e in
      ap (λ (rs : List Record). constants ++ rs)
      (ap₂ (λ (i : ℕ) (rs : List Record). input_records (up_from 0 i) ++ rs) e
      (ap₂ (λ (rs : List Record) (xs : List ℕ). rs ++ output_records xs 0) a b))

  -- EACH ROW OF THE ORDER can be made
  module _ (long : Long T) where
    pub rows_sound : (row : ℕ) → mem row (placing_of N) ≡ true → row < n → RowSound cells (held_runs T.runs T.run_bits) (starts_in cells n) row
    unfolding placing_of
    rows_sound row m l =
        let s = sound_tables T long g in
        let b : row < length N.cells = omega (arith, l, count_is T g) in
        let other : apart N row ≡ false = placing_unmarked (reads_of N) (length N.cells) (order_placing (reads_of N) (length N.cells) (apart N)).run row m in
        record {
          cells_long = s.cells_long;
          starts_long = length-sets (zeros 512) 0 (starts_from 0 n cells) ∙ length_zeros 512;
          below = omega (arith, l, s.few);
          narrow = s.narrow row l;
          room = λ held k. rw (pool_held T, shown held row k b)
              (omega (arith, made_length N (is_valid T g) held row k b other, begin T g row b, start_room N (is_valid T g) start (next T g) 4096 (most T g) row b));
        }

    -- GOOD TABLES ARE SOUND
    pub sound : Sound cells T.runs T.run_bits n
    unfolding placing_of
    sound = record {
      table = sound_tables T long g;
      inside = good_inside T long g;
      rows = λ row m.
          let k : mem row (placing_of N) ≡ true = subst (λ (L : List ℕ). mem row L ≡ true) (good_order T long g) m in
          rows_sound row k (omega (arith, count_is T g, order_below (reads_of N) (length N.cells) (apart N) row k));
      sum = λ free.
          let f : ringed N ≡ false = sym (good_ring T long g) ∙ free in
          ap₂ (λ (p : List Run) (L : List ℕ). length (translation_in cells p n L)) (pool_held T) (good_order T long g)
          ∙ ap length (translation_shown f) ∙ translation_count N (is_valid T g) f
          ∙ sym (ap (λ (p : List Run). 3 + rows_total (row_sum p) n cells) (pool_held T) ∙ sum_shown);
    }

-- so is the order that placing leaves
pub order_sound : {cells runs trits : List ℕ} {n : ℕ} {rows marks : List ℕ} {answer : Ordered} → Sound cells runs trits n → PlacedAll cells runs n rows marks answer
    → ring_in cells runs n ≡ false → OrderSound cells (held_runs runs trits) n rows answer.count
unfolding pad
order_sound {cells} {runs} {trits} {n} {rows} {marks} {answer} s p free =
    let L = order_in cells runs n in
    record {
      table = s.table;
      fits = ordered_few p;
      rows = λ i h.
          let k : i < length L = omega (arith, h, p.count) in
          let e : get_or rows i 0 ≡ get_or L i 0 = ap (λ (x : List ℕ). get_or x i 0) p.rows_are ∙ get_or-append L (zeros (512 - length L)) 0 i k in
          rw e (s.rows (get_or L i 0) (member L i k));
      sum = rw (ordered p) (s.sum free);
    }

-- what is given for the order that placing leaves is given for the order of placing
pub given_order : {cells runs : List ℕ} (pool : List Run) {n sum : ℕ} {rows marks room room' : List ℕ} {answer : Ordered} {r : Result ℕ Refusal} → PlacedAll cells runs n rows marks answer
    → Given sum (translation_in cells pool n (take answer.count rows)) room r room' → Given sum (translation_in cells pool n (order_in cells runs n)) room r room'
given_order {cells} {runs} pool {n} {sum} {rows} {marks} {room} {room'} {answer} {r} p g = subst (λ (L : List ℕ). Given sum (translation_in cells pool n L) room r room') (ordered p) g
