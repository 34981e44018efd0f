-- THE COUNT: "The number of records is told, and equals 3 plus the table's sum".
use mathlib.Core.Path.{◌≡◌, refl, ap, ap₂, ◌∙◌, sym, subst}
use mathlib.Core.Bool.{Bool, true, false, ◌||◌}
use mathlib.Core.List.{List, [], ◌∷◌, ◌++◌}
use Prim.Native.Nat.{ℕ, zero, suc, ◌+◌, ◌<◌}
use native.Mathlib.Omega.{arith}
use native.Mathlib.Decide.{ℕ_discrete}
use lib.Dec.{eqb}
use lib.ListN.{length, get_or, length-append}
use borrow.Author.Tests.{eqb-true}
use Rattle.ground.specs.Choice.{pick}
use Rattle.ground.specs.Lists.{total, joined, up_from, updated}
use Rattle.ground.proofs.Bools.{bool_cases, never_both, or_false}
use Rattle.graph.specs.Graph.{place, order}
use Rattle.graph.specs.Placing.{Placing, done, step}
use Rattle.graph.proofs.Ready.{place_same, place_other, place_keeps, ready_unplaced}
use Rattle.graph.proofs.Order.{order_placing, placing_marks}
use Rattle.graph.proofs.Ring.{all_in}
use Rattle.kinds.specs.Kinds.{kind_at, input_kind, output_kind}
use Rattle.kinds.proofs.Widths.{Fits}
use Rattle.netlist.specs.Netlist.{Cell, Netlist, operand_width}
use Rattle.netlist.specs.Rules.{output_bits, widths_of, valid}
use Rattle.netlist.proofs.Lengths.{cell_fits}
use Rattle.cells.specs.Operands.{bits_from}
use Rattle.cells.proofs.Linking.{length_bits}
use Rattle.cells.proofs.Counts.{kind_makes}
use Rattle.placing.specs.Placing.{no_cell, cell_at, reads_of, input_width, input_bits, output_from, outputs_from, apart, placing_of, ringed}
use Rattle.placing.proofs.Sound.{valid_cell}
use Rattle.translating.specs.Translation.{Slots, input_records, input_slots, cell_made, cell_records, output_records, slots_of, translation, cell_sum, record_sum}

-- SUMS over rows below n
pub upto : (ℕ → ℕ) → ℕ → ℕ
upto g zero = 0
upto g (suc n) = g n + upto g n

upto_same : (g h : ℕ → ℕ) (n : ℕ) → ((i : ℕ) → i < n → g i ≡ h i) → upto g n ≡ upto h n
unfolding upto
upto_same g h zero e = refl
upto_same g h (suc n) e = ap₂ (λ (a b : ℕ). a + b) (e n (omega arith)) (upto_same g h n (λ i l. e i (omega arith)))

upto_add : (g h : ℕ → ℕ) (n : ℕ) → upto (λ i. g i + h i) n ≡ upto g n + upto h n
unfolding upto
upto_add g h zero = refl
upto_add g h (suc n) = omega (arith, upto_add g h n)

upto_first : (g : ℕ → ℕ) (n : ℕ) → upto g (suc n) ≡ g 0 + upto (λ i. g (suc i)) n
unfolding upto
upto_first g zero = refl
upto_first g (suc n) = omega (arith, upto_first g n)

total_upto : (f : Cell → ℕ) (cs : List Cell) → total f cs ≡ upto (λ i. f (get_or cs i no_cell)) (length cs)
unfolding total upto
total_upto f [] = refl
total_upto f (c ∷ cs) = ap (λ (m : ℕ). f c + m) (total_upto f cs) ∙ sym (upto_first (λ i. f (get_or (c ∷ cs) i no_cell)) (length cs))

-- what is not placed yet
abbrev waiting : (ℕ → ℕ) → (ℕ → Bool) → ℕ → ℕ
waiting f P n = upto (λ i. pick (P i) 0 (f i)) n

waiting_place : (f : ℕ → ℕ) (P : ℕ → Bool) (r n : ℕ) → r < n → P r ≡ false → waiting f P n ≡ f r + waiting f (place P r) n
unfolding upto
waiting_place f P r zero l e = absurd (omega arith)
waiting_place f P r (suc n) l e = go (ℕ_discrete n r) (λ m. waiting_place f P r n m e)
  where
    go : Dec (n ≡ r) → (r < n → waiting f P n ≡ f r + waiting f (place P r) n) → pick (P n) 0 (f n) + waiting f P n ≡ f r + (pick (place P r n) 0 (f n) + waiting f (place P r) n)
    go (yes q) ih =
        let same : waiting f P n ≡ waiting f (place P r) n = upto_same _ _ n (λ i m. ap (λ (b : Bool). pick b 0 (f i)) (sym (place_other P r i (omega arith)))) in
        let here : pick (P n) 0 (f n) ≡ f r = ap (λ (b : Bool). pick b 0 (f n)) (ap P q ∙ e) ∙ ap f q in
        let gone : pick (place P r n) 0 (f n) ≡ 0 = ap (λ (b : Bool). pick b 0 (f n)) (ap (place P r) q ∙ place_same P r) in
        omega (arith, same, here, gone)
    go (no q) ih =
        let same : pick (P n) 0 (f n) ≡ pick (place P r n) 0 (f n) = ap (λ (b : Bool). pick b 0 (f n)) (sym (place_other P r n q)) in
        omega (arith, same, ih (omega arith))

placing_total : (reads : ℕ → List ℕ) (f : ℕ → ℕ) (n : ℕ) {P Q : ℕ → Bool} {L : List ℕ} → Placing reads n P L Q → total f L + waiting f Q n ≡ waiting f P n
unfolding total
placing_total reads f n (done s) = omega arith
placing_total reads f n (step {P} {Q} {r} {L} l d run) =
    omega (arith, placing_total reads f n run, waiting_place f P r n l (ready_unplaced reads P r d))

none_waiting : (f : ℕ → ℕ) (Q : ℕ → Bool) (n : ℕ) → ((i : ℕ) → i < n → Q i ≡ true) → waiting f Q n ≡ 0
unfolding upto
none_waiting f Q zero h = refl
none_waiting f Q (suc n) h = omega (arith, ap (λ (b : Bool). pick b 0 (f n)) (h n (omega arith)), none_waiting f Q n (λ i l. h i (omega arith)))

pub length_inputs : (n i : ℕ) → length (input_records (up_from i n)) ≡ n
unfolding input_records up_from
length_inputs zero i = refl
length_inputs (suc n) i = ap suc (length_inputs n (i + 1))

pub length_outputs : (xs : List ℕ) (j : ℕ) → length (output_records xs j) ≡ length xs
unfolding output_records
length_outputs [] j = refl
length_outputs (x ∷ xs) j = ap suc (length_outputs xs (j + 1))

-- an output gives as many bits as its operand is wide
length_output : (slots : ℕ → List ℕ) (cs : List Cell) → length (joined (output_from slots) cs) ≡ total output_bits cs
unfolding joined total
length_output slots [] = refl
length_output slots (c ∷ cs) =
    length-append (output_from slots c) (joined (output_from slots) cs)
    ∙ ap₂ (λ (a b : ℕ). a + b) (bool_cases (eqb c.kind output_kind) (λ e. rw e (length_bits slots c.a)) (λ e. rw e)) (length_output slots cs)

-- a kind's records, as an input's, an output's or another cell's
split : (kind w a : ℕ) → (kind_at kind).records w a ≡ pick (eqb kind input_kind) w 0 + pick (eqb kind output_kind) a 0 + pick (eqb kind input_kind || eqb kind output_kind) 0 ((kind_at kind).records w a)
unfolding kind_at
split kind w a =
    bool_cases (eqb kind input_kind)
    (λ e. subst (λ (z : ℕ). (kind_at z).records w a ≡ pick (eqb z input_kind) w 0 + pick (eqb z output_kind) a 0 + pick (eqb z input_kind || eqb z output_kind) 0 ((kind_at z).records w a)) (sym (eqb-true kind input_kind e)) (omega arith))
    (λ e. bool_cases (eqb kind output_kind)
    (λ o. subst (λ (z : ℕ). (kind_at z).records w a ≡ pick (eqb z input_kind) w 0 + pick (eqb z output_kind) a 0 + pick (eqb z input_kind || eqb z output_kind) 0 ((kind_at z).records w a)) (sym (eqb-true kind output_kind o)) (omega arith))
    (λ o. other e o ((kind_at kind).records w a)))
  where
    other : eqb kind input_kind ≡ false → eqb kind output_kind ≡ false → (m : ℕ) → m ≡ pick (eqb kind input_kind) w 0 + pick (eqb kind output_kind) a 0 + pick (eqb kind input_kind || eqb kind output_kind) 0 m
    other e o m = rw (e, o) (omega arith)

module _ (N : Netlist) (v : valid N ≡ true) where
  abbrev n : ℕ
  n = length N.cells

  abbrev sum_at : ℕ → ℕ
  sum_at i = cell_sum (cell_at N i)

  -- a cell's records are as many as the table says
  cell_count : (row k : ℕ) (slots : Slots) → row < n → apart N row ≡ false → length (cell_made N row k slots).records ≡ sum_at row
  cell_count row k slots l h =
      let c = cell_at N row in
      let p = or_false (eqb c.kind input_kind) (eqb c.kind output_kind) h in
      let f : Fits (kind_at c.kind) c.width (length (bits_from slots c.a)) (length (bits_from slots c.b)) (length (bits_from slots c.c)) =
      rw (length_bits slots c.a, length_bits slots c.b, length_bits slots c.c) (cell_fits (widths_of N.cells) (length N.metas) c (valid_cell N v row l)) in
      (kind_makes k c.width (bits_from slots c.a) (bits_from slots c.b) (bits_from slots c.c) c.kind p.0 p.1 f).0
      ∙ ap (λ (m : ℕ). (kind_at c.kind).records c.width m) (length_bits slots c.a)

  cells_count : {P Q : ℕ → Bool} {L : List ℕ} → Placing (reads_of N) n P L Q → ((j : ℕ) → apart N j ≡ true → P j ≡ true) → (k : ℕ) (slots : Slots)
      → length (cell_records L N k slots) ≡ total sum_at L
  unfolding cell_records total
  cells_count (done s) a k slots = refl
  cells_count (step {P} {Q} {r} {L} l d run) a k slots =
      let m = cell_made N r k slots in
      let u : apart N r ≡ false = bool_cases (apart N r) (λ t. never_both (a r t) (ready_unplaced (reads_of N) P r d)) (λ f. f) in
      length-append m.records (cell_records L N (k + length m.records) (updated slots r m.outs))
      ∙ ap₂ (λ (x y : ℕ). x + y) (cell_count r k slots l u) (cells_count run (λ j t. place_keeps P r j (a j t)) (k + length m.records) (updated slots r m.outs))

  -- every cell is an input, an output or one of the others
  others : ℕ → ℕ
  others i = pick (apart N i) 0 (sum_at i)

  split_sum : (i : ℕ) → sum_at i ≡ input_width (cell_at N i) + output_bits (cell_at N i) + others i
  unfolding others
  split_sum i = split (cell_at N i).kind (cell_at N i).width (operand_width (cell_at N i).a)

  all_sum : total cell_sum N.cells ≡ input_bits N + total output_bits N.cells + upto others n
  all_sum =
      total_upto cell_sum N.cells
      ∙ upto_same _ _ n (λ i l. split_sum i)
      ∙ upto_add (λ i. input_width (cell_at N i) + output_bits (cell_at N i)) others n
      ∙ ap (λ (m : ℕ). m + upto others n) (upto_add (λ i. input_width (cell_at N i)) (λ i. output_bits (cell_at N i)) n ∙ sym (ap₂ (λ (x y : ℕ). x + y) (total_upto input_width N.cells) (total_upto output_bits N.cells)))

  -- THE LIST HAS 3 PLUS THE TABLE'S SUM OF RECORDS
  pub translation_count : ringed N ≡ false → length (translation N) ≡ record_sum N
  unfolding translation record_sum outputs_from ringed placing_of others
  translation_count free =
      let ended = order_placing (reads_of N) n (apart N) in
      let rows = order (reads_of N) n (apart N) in
      let inner = cell_records rows N (3 + input_bits N) (input_slots N) in
      let outs = joined (output_from (slots_of N)) N.cells in
      let marks : (i : ℕ) → i < n → ended.marks i ≡ true = λ i l. placing_marks (reads_of N) n ended.run i ∙ all_in (reads_of N) n (apart N) free i l in
      let p = length-append (input_records (up_from 0 (input_bits N))) (inner ++ output_records outs 0) in
      let q = length-append inner (output_records outs 0) in
      omega (
        arith,
        p,
        q,
        length_inputs (input_bits N) 0,
        length_outputs outs 0,
        length_output (slots_of N) N.cells,
        cells_count ended.run (λ j t. t) (3 + input_bits N) (input_slots N),
        placing_total (reads_of N) sum_at n ended.run,
        none_waiting sum_at ended.marks n marks,
        all_sum,
      )
