-- Without a ring there is exactly one settled setting, and the evaluation gives its output bits.
use mathlib.Core.Path.{◌≡◌, refl, ap, ap₂, ◌∙◌, sym, subst}
use mathlib.Core.Bool.{Bool, true, false, ◌||◌}
use mathlib.Core.Logic.{⊎_elim}
use mathlib.Core.List.{List, [], ◌∷◌, ◌++◌, map, reverse}
use Prim.Native.Nat.{ℕ, suc, ◌<◌}
use native.Mathlib.Omega.{arith}
use native.Mathlib.Decide.{dec_lt}
use lib.Dec.{eqb}
use lib.ListN.{length, get_or, length-map, get_or-eq_default}
use Rattle.ground.specs.Choice.{pick}
use Rattle.ground.specs.Lists.{updated, joined}
use Rattle.ground.proofs.Bools.{bool_cases, never_both, or_true, or_false, or_left}
use Rattle.ground.proofs.Families.{updated_same, updated_other}
use Rattle.graph.specs.Graph.{mem, place}
use Rattle.graph.specs.Placing.{Placing, done, step}
use Rattle.graph.proofs.Ready.{place_keeps, place_cases, ready_unplaced, ready_reads}
use Rattle.graph.proofs.Order.{order_placing, placing_marks}
use Rattle.graph.proofs.Ring.{all_in}
use Rattle.kinds.specs.Kinds.{input_kind, output_kind}
use Rattle.netlist.specs.Netlist.{Run, Cell, Netlist}
use Rattle.netlist.specs.Runs.{Bit, known, bit, operand_bits}
use Rattle.netlist.specs.Rules.{widths_of, valid}
use Rattle.cells.specs.Operands.{bit_from, bits_from}
use Rattle.cells.specs.Values.{cell_value}
use Rattle.cells.proofs.Linking.{AllAsk, RunsAsk, runs_ask}
use Rattle.placing.specs.Placing.{no_cell, cell_at, reads_of, output_from, outputs_from, apart, placing_of, ringed}
use Rattle.placing.proofs.Sound.{Wide, wide_no_output, cell_asks}
use Rattle.evaluating.specs.Settled.{Setting, rule_of, Settled}
use Rattle.evaluating.specs.Evaluation.{values_from, assigned, evaluation}

-- A RULE READS ONLY THE ROWS THAT THE CELL NAMES
bits_agree : (u v : Setting) (bs : List Bit) → AllAsk (λ row. u row ≡ v row) bs → map (bit_from u) bs ≡ map (bit_from v) bs
bits_agree u v [] h = refl
bits_agree u v (known t ∷ bs) h = ap (λ (l : List ℕ). t ∷ l) (bits_agree u v bs h.1)
bits_agree u v (bit row o ∷ bs) h = ap₂ (λ (x : ℕ) (l : List ℕ). x ∷ l) (ap (λ (l : List ℕ). get_or l o 0) h.0) (bits_agree u v bs h.1)

operand_agrees : (u v : Setting) (rs : List Run) → RunsAsk (λ row. u row ≡ v row) rs → bits_from u rs ≡ bits_from v rs
unfolding bits_from
operand_agrees u v rs h = ap reverse (bits_agree u v (operand_bits rs) (runs_ask (λ row. u row ≡ v row) rs h))

output_agrees : (u v : Setting) (c : Cell) → RunsAsk (λ j. u j ≡ v j) c.a → output_from u c ≡ output_from v c
output_agrees u v c q = ap (λ (l : List ℕ). pick (eqb c.kind output_kind) l []) (operand_agrees u v c.a q)

outputs_each : (u v : Setting) (cs : List Cell) → ((i : ℕ) → i < length cs → RunsAsk (λ j. u j ≡ v j) (get_or cs i no_cell).a) → joined (output_from u) cs ≡ joined (output_from v) cs
unfolding joined
outputs_each u v [] q = refl
outputs_each u v (c ∷ cs) q = ap₂ (λ (a b : List ℕ). a ++ b) (output_agrees u v c (q 0 (omega arith))) (outputs_each u v cs (λ i l. q (suc i) (omega arith)))

module _ (N : Netlist) (valid-N : valid N ≡ true) (ins : List ℕ) where
  abbrev count : ℕ
  count = length N.cells

  pub value_local : (u v : Setting) (row : ℕ) → row < count → ((j : ℕ) → Wide (widths_of N.cells) j → mem j (reads_of N row) ≡ true → u j ≡ v j) → cell_value u (cell_at N row) ≡ cell_value v (cell_at N row)
  unfolding cell_value
  value_local u v row l h =
      let q = cell_asks N valid-N (λ j. u j ≡ v j) row l h in
      rw (operand_agrees u v (cell_at N row).a q.0, operand_agrees u v (cell_at N row).b q.1, operand_agrees u v (cell_at N row).c q.2)

  rule_local : (u v : Setting) (row : ℕ) → row < count → ((j : ℕ) → Wide (widths_of N.cells) j → mem j (reads_of N row) ≡ true → u j ≡ v j) → rule_of N ins u row ≡ rule_of N ins v row
  rule_local u v row l h = bool_cases (eqb (cell_at N row).kind input_kind) (λ e. rw e) (λ e. rw e (value_local u v row l h))

  pub rule_value : (u : Setting) (row : ℕ) → apart N row ≡ false → rule_of N ins u row ≡ cell_value u (cell_at N row)
  rule_value u row h = rw (or_false (eqb (cell_at N row).kind input_kind) (eqb (cell_at N row).kind output_kind) h).0

  -- AT MOST ONE: two settled settings agree on what is placed, row after row
  pub placed_agree : (u v : Setting) → Settled N ins u → Settled N ins v → {P Q : ℕ → Bool} {L : List ℕ} → Placing (reads_of N) count P L Q
      → ((j : ℕ) → P j ≡ true → eqb (cell_at N j).kind output_kind ≡ false → u j ≡ v j) → (j : ℕ) → Q j ≡ true → eqb (cell_at N j).kind output_kind ≡ false → u j ≡ v j
  placed_agree u v su sv (done s) h = h
  placed_agree u v su sv (step {P} {Q} {r} {L} l d run) h = placed_agree u v su sv run (λ j p o. ⊎_elim (λ e. subst (λ (z : ℕ). u z ≡ v z) (sym e) here) (λ q. h j q o) (place_cases P r j p))
    where
      here : u r ≡ v r
      here = su r l ∙ rule_local u v r l (λ j w m. h j (ready_reads (reads_of N) P r d j m) (wide_no_output N valid-N j w)) ∙ sym (sv r l)

  module _ (free : ringed N ≡ false) where
    pub all_placed_lem : (j : ℕ) → j < count → (order_placing (reads_of N) count (apart N)).marks j ≡ true
    unfolding ringed
    all_placed_lem j l = placing_marks (reads_of N) count (order_placing (reads_of N) count (apart N)).run j ∙ all_in (reads_of N) count (apart N) free j l

    rows_agree : (u v : Setting) → Settled N ins u → Settled N ins v → (j : ℕ) → j < count → eqb (cell_at N j).kind output_kind ≡ false → u j ≡ v j
    rows_agree u v su sv j l o = placed_agree u v su sv (order_placing (reads_of N) count (apart N)).run start j (all_placed_lem j l) o
      where
        inputs : (j : ℕ) → j < count → eqb (cell_at N j).kind input_kind ≡ true → u j ≡ v j
        inputs j l e = su j l ∙ assigned_same ∙ sym (sv j l)
          where
            assigned_same : rule_of N ins u j ≡ rule_of N ins v j
            assigned_same = rw e

        start : (j : ℕ) → apart N j ≡ true → eqb (cell_at N j).kind output_kind ≡ false → u j ≡ v j
        start j p o = go (dec_lt j count)
          where
            go : Dec (j < count) → u j ≡ v j
            go (yes l) = ⊎_elim (λ e. inputs j l e) (λ e. never_both e o) (or_true (eqb (cell_at N j).kind input_kind) (eqb (cell_at N j).kind output_kind) p)
            go (no l) = never_both (subst (λ (c : Cell). eqb c.kind input_kind || eqb c.kind output_kind ≡ true) (get_or-eq_default N.cells no_cell (omega arith)) p) refl

    -- ONE SETTLED SETTING AT MOST
    pub settled_unique : (u v : Setting) → Settled N ins u → Settled N ins v → (row : ℕ) → row < count → u row ≡ v row
    settled_unique u v su sv row l =
        su row l
        ∙ rule_local u v row l (λ j w m. rows_agree u v su sv j (omega (arith, w.below, length-map N.cells (λ (c : Cell). c.width))) (wide_no_output N valid-N j w))
        ∙ sym (sv row l)

  -- AT LEAST ONE: what is placed keeps its value, and that value is its rule's
  -- placed rows that are neither inputs nor outputs hold their values, and read only placed rows
  pub record Kept (P : ℕ → Bool) (values : Setting) : Type 0 where
    pub holds : (j : ℕ) → j < count → P j ≡ true → apart N j ≡ false → values j ≡ cell_value values (cell_at N j)
    pub shut : (j : ℕ) → j < count → P j ≡ true → apart N j ≡ false → (i : ℕ) → mem i (reads_of N j) ≡ true → P i ≡ true

  pub values_kept : {P Q : ℕ → Bool} {L : List ℕ} → Placing (reads_of N) count P L Q → ((j : ℕ) → apart N j ≡ true → P j ≡ true)
      → (values : Setting) → Kept P values → Kept Q (values_from L N ins values)
  unfolding values_from
  values_kept (done s) a values k = k
  values_kept (step {P} {Q} {r} {L} l d run) a values k =
      values_kept run (λ j t. place_keeps P r j (a j t)) (updated values r (rule_of N ins values r)) (record { holds = holds'; shut = shut' })
    where
      fresh : P r ≡ false
      fresh = ready_unplaced (reads_of N) P r d

      other : apart N r ≡ false
      other = bool_cases (apart N r) (λ t. never_both (a r t) fresh) (λ f. f)

      next : Setting
      next = updated values r (rule_of N ins values r)

      -- a placed row is not the new one
      stays : (i : ℕ) → P i ≡ true → values i ≡ next i
      stays i p = sym (updated_other values r (rule_of N ins values r) i (λ e. never_both (subst (λ (z : ℕ). P z ≡ true) e p) fresh))

      holds' : (j : ℕ) → j < count → place P r j ≡ true → apart N j ≡ false → next j ≡ cell_value next (cell_at N j)
      holds' j b p q = ⊎_elim
          (λ e. subst (λ (z : ℕ). next z ≡ cell_value next (cell_at N z)) (sym e)
          (updated_same values r (rule_of N ins values r) ∙ rule_value values r other ∙ value_local values next r l (λ i w m. stays i (ready_reads (reads_of N) P r d i m))))
          (λ t. sym (stays j t) ∙ k.holds j b t q ∙ value_local values next j b (λ i w m. stays i (k.shut j b t q i m)))
          (place_cases P r j p)

      shut' : (j : ℕ) → j < count → place P r j ≡ true → apart N j ≡ false → (i : ℕ) → mem i (reads_of N j) ≡ true → place P r i ≡ true
      shut' j b p q i m = ⊎_elim
          (λ e. place_keeps P r i (ready_reads (reads_of N) P r d i (subst (λ (z : ℕ). mem i (reads_of N z) ≡ true) e m)))
          (λ t. place_keeps P r i (k.shut j b t q i m))
          (place_cases P r j p)

  -- a row placed at the start keeps what it held
  values_stay : {P Q : ℕ → Bool} {L : List ℕ} → Placing (reads_of N) count P L Q → (values : Setting) (j : ℕ) → P j ≡ true → values_from L N ins values j ≡ values j
  unfolding values_from
  values_stay (done s) values j p = refl
  values_stay (step {P} {Q} {r} {L} l d run) values j p =
      values_stay run (updated values r (rule_of N ins values r)) j (place_keeps P r j p)
      ∙ updated_other values r (rule_of N ins values r) j (λ e. never_both (subst (λ (z : ℕ). P z ≡ true) e p) (ready_unplaced (reads_of N) P r d))

  -- the outputs of two settings that agree on rows with bits
  outputs_agree : (u v : Setting) → ((j : ℕ) → Wide (widths_of N.cells) j → u j ≡ v j) → outputs_from u N ≡ outputs_from v N
  unfolding outputs_from
  outputs_agree u v h = outputs_each u v N.cells (λ i l. (cell_asks N valid-N (λ j. u j ≡ v j) i l (λ j w m. h j w)).0)

  -- THE SETTING WORKED OUT, with the value of each output beside it
  module _ (free : ringed N ≡ false) where
    abbrev worked : Setting
    worked = values_from (placing_of N) N ins (assigned N ins)

    unfoldable pub settled : Setting
    settled row = pick (eqb (cell_at N row).kind output_kind) (cell_value worked (cell_at N row)) (worked row)

    worked_kept : Kept (order_placing (reads_of N) count (apart N)).marks worked
    unfolding placing_of
    worked_kept = values_kept (order_placing (reads_of N) count (apart N)).run (λ j t. t) (assigned N ins) (record { holds = λ j b p q. never_both p q; shut = λ j b p q. never_both p q })

    same_below : (j : ℕ) → Wide (widths_of N.cells) j → worked j ≡ settled j
    unfolding settled
    same_below j w = rw (wide_no_output N valid-N j w)

    settled_output : (row : ℕ) → row < count → eqb (cell_at N row).kind output_kind ≡ true → settled row ≡ rule_of N ins settled row
    unfolding settled
    settled_output row l e =
        let k = borrow.Author.Tests.eqb-true (cell_at N row).kind output_kind e in
        let i : eqb (cell_at N row).kind input_kind ≡ false = rw k in
        rw (e, i) (value_local worked settled row l (λ j w m. same_below j w))

    settled_input : (row : ℕ) → row < count → eqb (cell_at N row).kind input_kind ≡ true → eqb (cell_at N row).kind output_kind ≡ false → settled row ≡ rule_of N ins settled row
    unfolding settled assigned placing_of
    settled_input row l e o =
        let s = values_stay (order_placing (reads_of N) count (apart N)).run (assigned N ins) row (or_left (eqb (cell_at N row).kind input_kind) (eqb (cell_at N row).kind output_kind) e) in
        rw o (s ∙ rw e)

    settled_other : (row : ℕ) → row < count → apart N row ≡ false → settled row ≡ rule_of N ins settled row
    unfolding settled
    settled_other row l q =
        let p = or_false (eqb (cell_at N row).kind input_kind) (eqb (cell_at N row).kind output_kind) q in
        rw (p.1, p.0) (worked_kept.holds row l (all_placed_lem free row l) q ∙ value_local worked settled row l (λ j w m. same_below j w))

    -- ONE SETTLED SETTING AT LEAST
    pub settled_is : Settled N ins settled
    settled_is row l = bool_cases (eqb (cell_at N row).kind output_kind)
        (λ e. settled_output row l e)
        (λ o. bool_cases (eqb (cell_at N row).kind input_kind) (λ e. settled_input row l e o) (λ i. settled_other row l (rw (i, o))))

    -- THE EVALUATION GIVES THE OUTPUT BITS OF THE SETTLED SETTING, whichever is shown
    pub evaluation_settled : (v : Setting) → Settled N ins v → evaluation N ins ≡ outputs_from v N
    unfolding evaluation
    evaluation_settled v sv =
        outputs_agree worked settled same_below
        ∙ outputs_agree settled v (λ j w. settled_unique free settled v settled_is sv j (omega (arith, w.below, length-map N.cells (λ (c : Cell). c.width))))
