-- Cell after cell in the order of placing: what the records of a translation make is what the evaluation works out.
use mathlib.Core.Path.{◌≡◌, refl, ap, ◌∙◌, sym, subst}
use mathlib.Core.Bool.{Bool, true, false}
use mathlib.Core.List.{List, [], ◌∷◌, ◌++◌}
use Prim.Native.Nat.{ℕ, ◌+◌, ◌<◌}
use native.Mathlib.Omega.{arith}
use native.Mathlib.Nat.{add-zero}
use native.Mathlib.Decide.{ℕ_discrete}
use lib.Dec.{eqb, ltb}
use lib.ListN.{length, length-append}
use Rattle.ground.specs.Choice.{pick}
use Rattle.ground.specs.Lists.{updated}
use Rattle.ground.proofs.Bools.{bool_cases, never_both, or_false}
use Rattle.ground.proofs.Families.{updated_same, updated_other}
use Rattle.trit.specs.Trit.{Trits}
use Rattle.trit.proofs.Laws.{not_trit, and_trit, or_trit, xor_trit}
use Rattle.trit.proofs.Wide.{trits_append, trits_at}
use Rattle.graph.specs.Graph.{ready, place}
use Rattle.graph.specs.Placing.{Placing, done, step}
use Rattle.graph.proofs.Ready.{place_other, place_keeps, ready_unplaced, ready_reads}
use Rattle.kinds.specs.Kinds.{input_kind, output_kind}
use Rattle.kinds.proofs.Widths.{Fits}
use Rattle.netlist.specs.Netlist.{Cell, Netlist}
use Rattle.netlist.specs.Rules.{widths_of, valid}
use Rattle.netlist.proofs.Lengths.{cell_fits}
use Rattle.loadlist.specs.Run.{slot_of, slots_from}
use Rattle.loadlist.specs.declared.Record.{Record}
use Rattle.cells.specs.Operands.{bits_from}
use Rattle.cells.specs.Values.{cell_value}
use Rattle.cells.specs.Records.{Made}
use Rattle.cells.proofs.Running.{at, reads_of as values_in, Early, old, reads_old, early_old, slots_append, Right}
use Rattle.cells.proofs.Meaning.{kind_right}
use Rattle.cells.proofs.Linking.{Constants, Linked, RunsAsk, length_bits, operand_early, operand_held}
use Rattle.placing.specs.Placing.{cell_at, reads_of, apart}
use Rattle.placing.proofs.Sound.{valid_cell, wide_no_output, cell_asks}
use Rattle.evaluating.specs.Settled.{Setting, rule_of}
use Rattle.evaluating.specs.Evaluation.{values_from}
use Rattle.translating.specs.Translation.{cell_made, cell_records, cell_slots}

-- what a run makes has as many slots as records more
pub slots_length : (rs : List Record) (ins S : List ℕ) → length (slots_from rs ins S) ≡ length S + length rs
unfolding slots_from
slots_length [] ins S = sym (add-zero (length S))
slots_length (r ∷ rs) ins S = slots_length rs ins (S ++ (slot_of r ins S ∷ [])) ∙ omega (arith, length-append S (slot_of r ins S ∷ []))

-- .. and they are trits where the inputs are
picked_trit : (t : Bool) (x y : ℕ) → (t ≡ true → x < 3) → y < 3 → pick t x y < 3
picked_trit true x y p q = p refl
picked_trit false x y p q = q

slot_trit : (r : Record) (ins S : List ℕ) → Trits ins → Trits S → slot_of r ins S < 3
slot_trit r ins S p q =
    picked_trit (ltb r.op 3) _ _ (λ e. borrow.Author.Tests.ltb-true r.op 3 e)
    (picked_trit (eqb r.op 3) _ _ (λ _. trits_at ins p r.first)
    (picked_trit (eqb r.op 4) _ _ (λ _. not_trit _)
    (picked_trit (eqb r.op 5) _ _ (λ _. and_trit _ _)
    (picked_trit (eqb r.op 6) _ _ (λ _. or_trit _ _)
    (picked_trit (eqb r.op 7) _ _ (λ _. xor_trit _ _)
    (trits_at S q r.first))))))

pub slots_trits : (rs : List Record) (ins S : List ℕ) → Trits ins → Trits S → Trits (slots_from rs ins S)
unfolding slots_from
slots_trits [] ins S p q = q
slots_trits (r ∷ rs) ins S p q = slots_trits rs ins (S ++ (slot_of r ins S ∷ [])) p (trits_append S (slot_of r ins S ∷ []) q (slot_trit r ins S p q, tt))

-- more slots keep what is held
pub constants_old : (S T : List ℕ) → Constants S → Constants (S ++ T)
constants_old S T c = record {
  three = omega (arith, length-append S T, c.three);
  zero' = old S T 0 (omega (arith, c.three)) ∙ c.zero';
  one' = old S T 1 (omega (arith, c.three)) ∙ c.one';
  x' = old S T 2 c.three ∙ c.x';
}

pub linked_old : (S T : List ℕ) (slots values : ℕ → List ℕ) (row : ℕ) → Linked S slots values row → Linked (S ++ T) slots values row
linked_old S T slots values row l = record { early = early_old S T (slots row) l.early; holds = reads_old S T (slots row) l.early ∙ l.holds }

-- THE SLOTS SO FAR: they are trits, hold the constants, and hold the bits of every placed row that can be read
pub record Held (N : Netlist) (P : ℕ → Bool) (S : List ℕ) (slots values : ℕ → List ℕ) : Type 0 where
  pub trits : Trits S
  pub constants : Constants S
  pub linked : (j : ℕ) → P j ≡ true → eqb (cell_at N j).kind output_kind ≡ false → Linked S slots values j

module _ (N : Netlist) (v : valid N ≡ true) (ins : List ℕ) (bits : Trits ins) where
  abbrev count : ℕ
  count = length N.cells

  -- a ready cell's records hold what its rule gives
  module _ (P : ℕ → Bool) (S : List ℕ) (slots values : ℕ → List ℕ) (h : Held N P S slots values) (k : ℕ) (e : k ≡ length S)
      (r : ℕ) (below : r < count) (d : ready (reads_of N) P r ≡ true) where
    abbrev c : Cell
    c = cell_at N r

    pub asks : RunsAsk (Linked S slots values) c.a × RunsAsk (Linked S slots values) c.b × RunsAsk (Linked S slots values) c.c
    asks = cell_asks N v (Linked S slots values) r below (λ j w m. h.linked j (ready_reads (reads_of N) P r d j m) (wide_no_output N v j w))

    pub cell_right : Right ins S (cell_made N r k slots) (cell_value values c)
    unfolding cell_value
    cell_right =
        let K = h.constants in
        let f : Fits (Rattle.kinds.specs.Kinds.kind_at c.kind) c.width (length (bits_from slots c.a)) (length (bits_from slots c.b)) (length (bits_from slots c.c)) =
        rw (length_bits slots c.a, length_bits slots c.b, length_bits slots c.c) (cell_fits (widths_of N.cells) (length N.metas) c (valid_cell N v r below)) in
        let w = kind_right ins S k e h.trits (omega (arith, K.three)) K.zero' c.kind c.width (bits_from slots c.a) (bits_from slots c.b) (bits_from slots c.c) f
        (operand_early S K slots values c.a asks.0) (operand_early S K slots values c.b asks.1) (operand_early S K slots values c.c asks.2) in
        rw (operand_held S K slots values c.a asks.0, operand_held S K slots values c.b asks.1, operand_held S K slots values c.c asks.2) at w

    abbrev m : Made
    m = cell_made N r k slots

    -- with the cell's slots and bits, all placed rows are held
    pub held_more : Held N (place P r) (slots_from m.records ins S) (updated slots r m.outs) (updated values r (cell_value values c))
    held_more = record {
      trits = slots_trits m.records ins S bits h.trits;
      constants = subst Constants (sym cell_right.ran) (constants_old S cell_right.added h.constants);
      linked = λ j p o. subst (λ (l : List ℕ). Linked l (updated slots r m.outs) (updated values r (cell_value values c)) j) (sym cell_right.ran) (go j p o (ℕ_discrete j r));
    }
      where
        S' : List ℕ
        S' = S ++ cell_right.added

        go : (j : ℕ) → place P r j ≡ true → eqb (cell_at N j).kind output_kind ≡ false → Dec (j ≡ r) → Linked S' (updated slots r m.outs) (updated values r (cell_value values c)) j
        go j p o (yes q) = subst (Linked S' (updated slots r m.outs) (updated values r (cell_value values c))) (sym q) (record {
          early = subst (Early S') (sym (updated_same slots r m.outs)) cell_right.early;
          holds = ap (values_in S') (updated_same slots r m.outs) ∙ cell_right.holds ∙ sym (updated_same values r (cell_value values c));
        })
        go j p o (no q) =
            let l = linked_old S cell_right.added slots values j (h.linked j (sym (place_other P r j q) ∙ p) o) in
            record {
              early = subst (Early S') (sym (updated_other slots r m.outs j q)) l.early;
              holds = ap (values_in S') (updated_other slots r m.outs j q) ∙ l.holds ∙ sym (updated_other values r (cell_value values c) j q);
            }

  -- a cell that is no input holds its value
  pub rule_is : (values : Setting) (r : ℕ) → apart N r ≡ false → rule_of N ins values r ≡ cell_value values (cell_at N r)
  rule_is values r h = rw (or_false (eqb (cell_at N r).kind input_kind) (eqb (cell_at N r).kind output_kind) h).0

  -- THE CELLS IN ORDER: the slots of the records hold the values worked out
  pub placed_held : {P Q : ℕ → Bool} {L : List ℕ} → Placing (reads_of N) count P L Q → ((j : ℕ) → apart N j ≡ true → P j ≡ true)
      → (S : List ℕ) (slots values : ℕ → List ℕ) (k : ℕ) → k ≡ length S → Held N P S slots values
      → Held N Q (slots_from (cell_records L N k slots) ins S) (cell_slots L N k slots) (values_from L N ins values)
  unfolding cell_records cell_slots values_from
  placed_held (done {P} s) a S slots values k e h = subst (λ (l : List ℕ). Held N P l slots values) (sym (Rattle.cells.proofs.Running.ran_end ins S)) h
  placed_held (step {P} {Q} {r} {L} l d run) a S slots values k e h =
      let m = cell_made N r k slots in
      let S' = slots_from m.records ins S in
      let u : apart N r ≡ false = bool_cases (apart N r) (λ t. never_both (a r t) (ready_unplaced (reads_of N) P r d)) (λ f. f) in
      let w = held_more P S slots values h k e r l d in
      let w' : Held N (place P r) S' (updated slots r m.outs) (updated values r (rule_of N ins values r)) = rw (rule_is values r u) w in
      let ih = placed_held run (λ j t. place_keeps P r j (a j t)) S' (updated slots r m.outs) (updated values r (rule_of N ins values r)) (k + length m.records) (omega (arith, slots_length m.records ins S)) w' in
      subst (λ (s : List ℕ). Held N Q s (cell_slots L N (k + length m.records) (updated slots r m.outs)) (values_from L N ins (updated values r (rule_of N ins values r))))
      (sym (slots_append m.records (cell_records L N (k + length m.records) (updated slots r m.outs)) ins S)) ih
