-- All bits in one list of values, those of a row from its start on: rows worked out there hold what the setting of the evaluation holds.
use mathlib.Core.Path.{◌≡◌, refl, ap, ap₂, ◌∙◌, sym, subst}
use mathlib.Core.Bool.{Bool, true, false, ◌&&◌}
use mathlib.Core.Logic.{⊎_elim}
use mathlib.Core.List.{List, [], ◌∷◌, ◌++◌, map, map-append, reverse}
use Prim.Native.Nat.{ℕ, zero, suc, ◌+◌, ◌*◌, ◌<◌, ◌≤◌}
use native.Mathlib.Omega.{arith}
use native.Mathlib.Decide.{dec_lt}
use lib.Dec.{eqb, leb, ltb}
use lib.ListN.{length, get_or, take, drop, length-map, get_or-map}
use lib.Seq.{sets, length-sets, get_or-take, take_all}
use borrow.Author.Tests.{leb-true}
use Rattle.ground.specs.Choice.{pick}
use Rattle.ground.specs.Lists.{every, updated, joined}
use Rattle.ground.specs.Regions.{part}
use Rattle.ground.proofs.Bools.{bool_cases, never_both, and_true, every_first}
use Rattle.ground.proofs.Families.{updated_same, updated_other}
use Rattle.graph.specs.Graph.{mem, ready, place}
use Rattle.graph.specs.Placing.{Placing, done, step}
use Rattle.graph.proofs.Ready.{place_keeps, place_cases, ready_unplaced, ready_reads}
use Rattle.kinds.specs.Kinds.{output_kind}
use Rattle.netlist.specs.Netlist.{Run, const, piece, Cell, Netlist}
use Rattle.netlist.specs.Runs.{falling, known_bits, operand_bits}
use Rattle.netlist.specs.Rules.{run_sound, widths_of, valid}
use Rattle.cells.specs.Held.{held_bits}
use Rattle.cells.specs.Operands.{bit_from, bits_from}
use Rattle.cells.specs.Values.{cell_value}
use Rattle.cells.proofs.Linking.{RunsAsk}
use Rattle.placing.specs.Placing.{no_cell, cell_at, reads_of, output_from, apart}
use Rattle.placing.proofs.Sound.{Wide, wide_no_output, cell_runs_lem, cell_asks}
use Rattle.assigning.specs.Rows.{width_in}
use Rattle.assigning.proofs.Parts.{part_written, part_behind, part_before}
use Rattle.evaluating.specs.Settled.{Setting, rule_of}
use Rattle.evaluating.specs.Evaluation.{values_from}
use Rattle.valuing.specs.Row.{cell_of, row_value}
use Rattle.evaluating.specs.InTables.{settled_in}
use Rattle.evaluating.proofs.Settles.{rule_value}
use Rattle.evaluating.proofs.Widths.{value_length}

-- AN OPERAND READS ONLY THE BITS THAT A CELL HAS
falling_same : (u v : Setting) (row o w : ℕ) → ((i : ℕ) → i < o + w → get_or (u row) i 0 ≡ get_or (v row) i 0) → map (bit_from u) (falling row o w) ≡ map (bit_from v) (falling row o w)
unfolding falling
falling_same u v row o zero h = refl
falling_same u v row o (suc w) h = ap₂ (λ (x : ℕ) (l : List ℕ). x ∷ l) (h (o + w) (omega arith)) (falling_same u v row o w (λ i l. h i (omega arith)))

known_same : (u v : Setting) (ts : List ℕ) → map (bit_from u) (known_bits ts) ≡ map (bit_from v) (known_bits ts)
unfolding known_bits
known_same u v [] = refl
known_same u v (t ∷ ts) = ap (λ (l : List ℕ). t ∷ l) (known_same u v ts)

module _ (u v : Setting) (widths : List ℕ) where
  -- the settings agree on the bits of a row
  abbrev pub Same : ℕ → Type 0
  Same row = (i : ℕ) → i < get_or widths row 0 → get_or (u row) i 0 ≡ get_or (v row) i 0

  bits_same : (rs : List Run) → every (run_sound widths) rs ≡ true → RunsAsk Same rs → map (bit_from u) (operand_bits rs) ≡ map (bit_from v) (operand_bits rs)
  unfolding joined
  bits_same [] h q = refl
  bits_same (const ts ∷ rs) h q =
      let p = every_first (run_sound widths) (const ts) rs h in
      map-append (bit_from u) (known_bits ts) (operand_bits rs)
      ∙ ap₂ (λ (a b : List ℕ). a ++ b) (known_same u v ts) (bits_same rs p.1 q.1)
      ∙ sym (map-append (bit_from v) (known_bits ts) (operand_bits rs))
  bits_same (piece row o w ∷ rs) h q =
      let p = every_first (run_sound widths) (piece row o w) rs h in
      let r = and_true (leb 1 w) (ltb row (length widths) && leb (o + w) (get_or widths row 0)) p.0 in
      let k = leb-true (o + w) (get_or widths row 0) (and_true (ltb row (length widths)) _ r.1).1 in
      map-append (bit_from u) (falling row o w) (operand_bits rs)
      ∙ ap₂ (λ (a b : List ℕ). a ++ b) (falling_same u v row o w (λ i l. q.0 i (omega (arith, l, k)))) (bits_same rs p.1 q.1)
      ∙ sym (map-append (bit_from v) (falling row o w) (operand_bits rs))

  pub operand_same : (rs : List Run) → every (run_sound widths) rs ≡ true → RunsAsk Same rs → bits_from u rs ≡ bits_from v rs
  unfolding bits_from
  operand_same rs h q = ap reverse (bits_same rs h q)

module _ (N : Netlist) (valid-N : valid N ≡ true) where
  abbrev count : ℕ
  count = length N.cells

  abbrev widths : List ℕ
  widths = widths_of N.cells

  abbrev bits_of : ℕ → ℕ
  bits_of row = (cell_at N row).width

  width_at : (row : ℕ) → get_or widths row 0 ≡ bits_of row
  width_at row = get_or-map (λ (c : Cell). c.width) N.cells row no_cell

  wide_below : (row : ℕ) → Wide widths row → row < count
  wide_below row w = omega (arith, w.below, length-map N.cells (λ (c : Cell). c.width))

  module _ (u v : Setting) (row : ℕ) (l : row < count) (h : (j : ℕ) → Wide widths j → mem j (reads_of N row) ≡ true → Same u v widths j) where
    pub value_same : cell_value u (cell_at N row) ≡ cell_value v (cell_at N row)
    unfolding cell_value
    value_same =
        let q = cell_asks N valid-N (Same u v widths) row l h in
        let s = cell_runs_lem N valid-N row l in
        let c = cell_at N row in
        rw (operand_same u v widths c.a s.0 q.0, operand_same u v widths c.b s.1 q.1, operand_same u v widths c.c s.2 q.2)

    pub output_same : output_from u (cell_at N row) ≡ output_from v (cell_at N row)
    output_same =
        let c = cell_at N row in
        ap (λ (x : List ℕ). pick (eqb c.kind output_kind) x []) (operand_same u v widths c.a (cell_runs_lem N valid-N row l).0 (cell_asks N valid-N (Same u v widths) row l h).0)

  -- THE PLACES of the rows' bits: one behind the other, in a room
  module _ (start : ℕ → ℕ) (next : (j : ℕ) → j < count → start (suc j) ≡ start j + bits_of j) (room : ℕ) (most : start count ≤ room) where
    pub start_below : (j k : ℕ) → j < k → k ≤ count → start j + bits_of j ≤ start k
    start_below j zero h l = absurd (omega arith)
    start_below j (suc k) h l = go (dec_lt j k) (λ m. start_below j k m (omega arith))
      where
        go : Dec (j < k) → (j < k → start j + bits_of j ≤ start k) → start j + bits_of j ≤ start (suc k)
        go (yes m) f = omega (arith, f m, next k (omega arith))
        go (no m) f = let e : j ≡ k = omega arith in rw e (omega (arith, next k (omega arith)))

    pub start_room : (j : ℕ) → j < count → start j + bits_of j ≤ room
    start_room j l = omega (arith, start_below j count l (omega arith), most)

    -- the rows of these marks hold what the setting holds, but outputs, which have no bits
    pub record Held (P : ℕ → Bool) (v : Setting) (values : List ℕ) : Type 0 where
      pub long : length values ≡ room
      pub holds : (j : ℕ) → j < count → P j ≡ true → eqb (cell_at N j).kind output_kind ≡ false → part (start j) (bits_of j) values ≡ v j

    module _ (starts : List ℕ) (begin : (j : ℕ) → j < count → get_or starts j 0 ≡ start j) where
      pub held_same : {P : ℕ → Bool} {v : Setting} {values : List ℕ} → Held P v values → (j : ℕ) → Wide widths j → P j ≡ true → Same (held_bits starts values) v widths j
      unfolding part held_bits
      held_same {P} {v} {values} k j w p i l =
          let b = wide_below j w in
          let m : i < bits_of j = rw (← width_at j) l in
          ap (λ (s : ℕ). get_or (drop s values) i 0) (begin j b) ∙ sym (get_or-take (bits_of j) (drop (start j) values) i 0 m)
          ∙ ap (λ (x : List ℕ). get_or x i 0) (k.holds j b p (wide_no_output N valid-N j w))

      -- ONE ROW MORE
      module _ (ins : List ℕ) {P : ℕ → Bool} {v : Setting} {values : List ℕ} (k : Held P v values) (r : ℕ) (l : r < count) (d : ready (reads_of N) P r ≡ true) (other : apart N r ≡ false) where
        abbrev new : List ℕ
        new = cell_value (held_bits starts values) (cell_at N r)

        fresh : P r ≡ false
        fresh = ready_unplaced (reads_of N) P r d

        new_is : new ≡ rule_of N ins v r
        new_is = value_same (held_bits starts values) v r l (λ j w m. held_same k j w (ready_reads (reads_of N) P r d j m)) ∙ sym (rule_value N valid-N ins v r other)

        new_wide : length new ≡ bits_of r
        new_wide = value_length N valid-N (held_bits starts values) r l other

        stays : (j : ℕ) → j < count → (j ≡ r → ⊥) → part (start j) (bits_of j) (sets values (start r) new) ≡ part (start j) (bits_of j) values
        stays j b n = go (dec_lt j r)
          where
            go : Dec (j < r) → part (start j) (bits_of j) (sets values (start r) new) ≡ part (start j) (bits_of j) values
            go (yes m) = part_behind (start j) (bits_of j) values (start r) new (start_below j r m (omega arith))
            go (no m) = part_before (start j) (bits_of j) values (start r) new (omega (arith, start_below r j (omega arith) (omega arith), new_wide))

        written : part (start r) (bits_of r) (sets values (start r) new) ≡ rule_of N ins v r
        written =
            ap (λ (n : ℕ). part (start r) n (sets values (start r) new)) (sym new_wide)
            ∙ part_written values (start r) new (omega (arith, new_wide, start_room r l, k.long)) ∙ new_is

        held_more : Held (place P r) (updated v r (rule_of N ins v r)) (sets values (start r) new)
        held_more = record {
          long = length-sets values (start r) new ∙ k.long;
          holds = λ j b p o. ⊎_elim
              (λ e. subst (λ (z : ℕ). part (start z) (bits_of z) (sets values (start r) new) ≡ updated v r (rule_of N ins v r) z) (sym e) (written ∙ sym (updated_same v r (rule_of N ins v r))))
              (λ q. let n : j ≡ r → ⊥ = λ e. never_both (subst (λ (z : ℕ). P z ≡ true) e q) fresh in
              stays j b n ∙ k.holds j b q o ∙ sym (updated_other v r (rule_of N ins v r) j n))
              (place_cases P r j p);
        }

      -- ALL ROWS of an order of placing
      module _ (cells : List ℕ) (pool : List Run) (shown : (u : Setting) (j : ℕ) → j < count → cell_value u (cell_of pool (drop (j * 9) cells)) ≡ cell_value u (cell_at N j))
          (width : (j : ℕ) → j < count → width_in (drop (j * 9) cells) ≡ bits_of j) (ins : List ℕ) where
        pub values_held : {P Q : ℕ → Bool} {L : List ℕ} → Placing (reads_of N) count P L Q → ((j : ℕ) → apart N j ≡ true → P j ≡ true)
            → (v : Setting) (values : List ℕ) → Held P v values → Held Q (values_from L N ins v) (settled_in L cells pool starts values)
        unfolding values_from settled_in
        values_held (done s) a v values k = k
        values_held (step {P} {Q} {r} {L} l d run) a v values k =
            let other : apart N r ≡ false = bool_cases (apart N r) (λ t. never_both (a r t) (ready_unplaced (reads_of N) P r d)) (λ f. f) in
            let new = cell_value (held_bits starts values) (cell_at N r) in
            let x : row_value cells pool starts values r ≡ new =
            ap₂ (λ (w : ℕ) (y : List ℕ). take w y) (width r l) (shown (held_bits starts values) r l) ∙ take_all (bits_of r) new (omega (arith, value_length N valid-N (held_bits starts values) r l other)) in
            let e : sets values (get_or starts r 0) (row_value cells pool starts values r) ≡ sets values (start r) new = ap₂ (λ (s : ℕ) (y : List ℕ). sets values s y) (begin r l) x in
            values_held run (λ j t. place_keeps P r j (a j t)) (updated v r (rule_of N ins v r)) (sets values (get_or starts r 0) (row_value cells pool starts values r))
            (subst (Held (place P r) (updated v r (rule_of N ins v r))) (sym e) (held_more ins k r l d other))
