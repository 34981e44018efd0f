-- The slots of all bits in one list, those of a row from its start on: rows made there have the slots that the translation gives them.
use mathlib.Core.Path.{◌≡◌, refl, ap, ap₂, ◌∙◌, sym, subst}
use mathlib.Core.Bool.{Bool, true, false}
use mathlib.Core.Logic.{⊎_elim}
use mathlib.Core.List.{List, ◌++◌}
use Prim.Native.Nat.{ℕ, suc, ◌+◌, ◌*◌, ◌<◌, ◌≤◌}
use native.Mathlib.Omega.{arith}
use native.Mathlib.Decide.{dec_lt}
use lib.ListN.{length, get_or, drop}
use lib.Seq.{sets, length-sets}
use Rattle.ground.specs.Lists.{updated}
use Rattle.ground.specs.Regions.{part}
use Rattle.ground.proofs.Bools.{bool_cases, never_both}
use Rattle.ground.proofs.Families.{updated_same, updated_other}
use Rattle.graph.specs.Graph.{mem, ready, place}
use Rattle.graph.specs.Placing.{Placing, done, step}
use Rattle.graph.proofs.Ready.{place_keeps, place_cases, ready_unplaced, ready_reads}
use Rattle.netlist.specs.Netlist.{Run, Netlist}
use Rattle.netlist.specs.Rules.{widths_of, valid}
use Rattle.loadlist.specs.declared.Record.{Record}
use Rattle.cells.specs.Held.{held_bits}
use Rattle.cells.specs.Records.{Made}
use Rattle.placing.specs.Placing.{cell_at, reads_of, apart}
use Rattle.placing.proofs.Sound.{Wide, cell_runs_lem, cell_asks}
use Rattle.assigning.proofs.Parts.{part_written, part_behind, part_before}
use Rattle.valuing.specs.Row.{cell_of}
use Rattle.evaluating.proofs.Held.{Same, operand_same, start_below, start_room, Held, held_same}
use Rattle.translating.specs.Translation.{Slots, cell_made, cell_records, cell_slots}
use Rattle.translating.specs.InTables.{made_from, row_made, records_in, slots_in}
use Rattle.translating.proofs.Outs.{made_length}

module _ (N : Netlist) (valid-N : valid N ≡ true) where
  abbrev count : ℕ
  count = length N.cells

  abbrev bits_of : ℕ → ℕ
  bits_of row = (cell_at N row).width

  -- a cell makes the same where the slots of the bits that it reads are the same
  made_same : (u v : Slots) (row k : ℕ) → row < count → ((j : ℕ) → Wide (widths_of N.cells) j → mem j (reads_of N row) ≡ true → Same u v (widths_of N.cells) j)
      → made_from u (cell_at N row) k ≡ cell_made N row k v
  unfolding made_from
  made_same u v row k l h =
      let widths = widths_of N.cells in
      let q = cell_asks N valid-N (Same u v widths) row l h in
      let s = cell_runs_lem N valid-N row l in
      let c = cell_at N row in
      rw (operand_same u v widths c.a s.0 q.0, operand_same u v widths c.b s.1 q.1, operand_same u v widths c.c s.2 q.2)

  module _ (start : ℕ → ℕ) (next : (j : ℕ) → j < count → start (suc j) ≡ start j + bits_of j) (room : ℕ) (most : start count ≤ room) where
    abbrev Holds : (ℕ → Bool) → Slots → List ℕ → Type 0
    Holds P v slots = Held N valid-N start next room most P v slots

    -- what is put for a new row is there, and the rest stays
    module _ {P : ℕ → Bool} {v : Slots} {slots : List ℕ} (k : Holds P v slots) (r : ℕ) (l : r < count) (fresh : P r ≡ false) (new : List ℕ) (wide : length new ≡ bits_of r) where
      stays : (j : ℕ) → j < count → (j ≡ r → ⊥) → part (start j) (bits_of j) (sets slots (start r) new) ≡ part (start j) (bits_of j) slots
      stays j b n = go (dec_lt j r)
        where
          go : Dec (j < r) → part (start j) (bits_of j) (sets slots (start r) new) ≡ part (start j) (bits_of j) slots
          go (yes m) = part_behind (start j) (bits_of j) slots (start r) new (start_below N valid-N start next room most j r m (omega arith))
          go (no m) = part_before (start j) (bits_of j) slots (start r) new (omega (arith, start_below N valid-N start next room most r j (omega arith) (omega arith), wide))

      written : part (start r) (bits_of r) (sets slots (start r) new) ≡ new
      written =
          ap (λ (n : ℕ). part (start r) n (sets slots (start r) new)) (sym wide)
          ∙ part_written slots (start r) new (omega (arith, wide, start_room N valid-N start next room most r l, k.long))

      held_put : Holds (place P r) (updated v r new) (sets slots (start r) new)
      held_put = record {
        long = length-sets slots (start r) new ∙ k.long;
        holds = λ j b p o. ⊎_elim
            (λ e. subst (λ (z : ℕ). part (start z) (bits_of z) (sets slots (start r) new) ≡ updated v r new z) (sym e) (written ∙ sym (updated_same v r new)))
            (λ q. let n : j ≡ r → ⊥ = λ e. never_both (subst (λ (z : ℕ). P z ≡ true) e q) fresh in
            stays j b n ∙ k.holds j b q o ∙ sym (updated_other v r new j n))
            (place_cases P r j p);
      }

    module _ (starts : List ℕ) (begin : (j : ℕ) → j < count → get_or starts j 0 ≡ start j) (cells : List ℕ) (pool : List Run)
        (shown : (u : Slots) (j k : ℕ) → j < count → made_from u (cell_of pool (drop (j * 9) cells)) k ≡ made_from u (cell_at N j) k) where
      -- ONE ROW makes what it makes in the translation
      module _ {P : ℕ → Bool} {v : Slots} {slots : List ℕ} (h : Holds P v slots) (r k : ℕ) (l : r < count) (d : ready (reads_of N) P r ≡ true) (other : apart N r ≡ false) where
        row_is : row_made cells pool starts slots r k ≡ cell_made N r k v
        row_is =
            shown (held_bits starts slots) r k l
            ∙ made_same (held_bits starts slots) v r k l (λ j w m. held_same N valid-N start next room most starts begin h j w (ready_reads (reads_of N) P r d j m))

        row_wide : length (cell_made N r k v).outs ≡ bits_of r
        unfolding made_from
        row_wide = made_length N valid-N v r k l other

        row_held : Holds (place P r) (updated v r (cell_made N r k v).outs) (sets slots (get_or starts r 0) (row_made cells pool starts slots r k).outs)
        row_held =
            subst (Holds (place P r) (updated v r (cell_made N r k v).outs))
            (sym (ap₂ (λ (s : ℕ) (m : Made). sets slots s m.outs) (begin r l) row_is))
            (held_put h r l (ready_unplaced (reads_of N) P r d) (cell_made N r k v).outs row_wide)

      -- ALL ROWS of an order of placing: the same records, and the slots of the translation held
      pub record Placed (L : List ℕ) (Q : ℕ → Bool) (k : ℕ) (v : Slots) (slots : List ℕ) : Type 0 where
        pub records : records_in L cells pool starts k slots ≡ cell_records L N k v
        pub held : Holds Q (cell_slots L N k v) (slots_in L cells pool starts k slots)

      pub placed : {P Q : ℕ → Bool} {L : List ℕ} → Placing (reads_of N) count P L Q → ((j : ℕ) → apart N j ≡ true → P j ≡ true)
          → (k : ℕ) (v : Slots) (slots : List ℕ) → Holds P v slots → Placed L Q k v slots
      unfolding records_in slots_in cell_records cell_slots
      placed (done s) a k v slots h = record { records = refl; held = h }
      placed (step {P} {Q} {r} {L} l d run) a k v slots h =
          let other : apart N r ≡ false = bool_cases (apart N r) (λ t. never_both (a r t) (ready_unplaced (reads_of N) P r d)) (λ f. f) in
          let e = row_is h r k l d other in
          let m = row_made cells pool starts slots r k in
          let after = sets slots (get_or starts r 0) m.outs in
          let g = cell_made N r k v in
          let ih = placed run (λ j t. place_keeps P r j (a j t)) (k + length g.records) (updated v r g.outs) after (row_held h r k l d other) in
          let n : k + length m.records ≡ k + length g.records = ap (λ (x : Made). k + length x.records) e in
          record {
            records = ap₂ (λ (rs : List Record) (i : ℕ). rs ++ records_in L cells pool starts i after) (ap (λ (x : Made). x.records) e) n
                ∙ ap (λ (rs : List Record). g.records ++ rs) ih.records;
            held = rw n ih.held;
          }
