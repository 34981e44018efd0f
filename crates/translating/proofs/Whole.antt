-- THE LIST RUNS THE NETLIST: the records of a translation, run for any setting of 0, 1 and X, give the netlist's output bits.
use mathlib.Core.Path.{◌≡◌, refl, ap, ap₂, ◌∙◌, sym}
use mathlib.Core.Bool.{Bool, true, false}
use mathlib.Core.List.{List, [], ◌∷◌, ◌++◌, append_assoc, append-nil}
use Prim.Native.Nat.{ℕ, ◌+◌, ◌<◌}
use native.Mathlib.Omega.{arith}
use lib.Dec.{eqb}
use lib.ListN.{length, length-map}
use borrow.Author.Tests.{ne_eqb}
use Rattle.ground.specs.Lists.{up_from, updated}
use Rattle.ground.proofs.Bools.{bool_cases, never_both}
use Rattle.trit.specs.Trit.{Trits}
use Rattle.graph.specs.Graph.{place, order}
use Rattle.graph.specs.Placing.{Placing, done, step}
use Rattle.graph.proofs.Ready.{place_keeps, ready_unplaced}
use Rattle.graph.proofs.Order.{order_placing, placing_marks}
use Rattle.graph.proofs.Ring.{all_in}
use Rattle.netlist.specs.Netlist.{Cell, Netlist}
use Rattle.netlist.specs.Rules.{valid}
use Rattle.loadlist.specs.Records.{output_op}
use Rattle.loadlist.specs.Run.{slots_from, outputs_in, assigns}
use Rattle.loadlist.specs.declared.Record.{Record}
use Rattle.cells.specs.Operands.{bits_from}
use Rattle.cells.proofs.Running.{at, reads_of as values_in, Early, slots_append}
use Rattle.cells.proofs.Linking.{Linked, operand_early}
use Rattle.cells.proofs.Fields.{Gates, Below, gates_append, kind_gates}
use Rattle.placing.specs.Placing.{cell_at, reads_of, input_bits, outputs_from, apart, placing_of, ringed}
use Rattle.placing.proofs.Sound.{wide_no_output, cell_asks}
use Rattle.evaluating.specs.Settled.{rule_of}
use Rattle.evaluating.specs.Evaluation.{values_from, assigned, evaluation}
use Rattle.translating.specs.Translation.{constants, input_records, input_slots, cell_made, cell_records, output_records, slots_of, translation}
use Rattle.translating.proofs.Placed.{Held, asks, held_more, rule_is, placed_held, slots_length}
use Rattle.translating.proofs.Ends.{begun, inputs_ran, given_length, given_trits, start_held, outputs_ran, outputs_held}

-- RECORDS THAT GIVE NO OUTPUT are passed over
abbrev pub Silent : List Record → Type 0
Silent [] = Unit {0}
Silent (r ∷ rs) = (eqb r.op output_op ≡ false) × Silent rs

silent_append : (rs qs : List Record) → Silent rs → Silent qs → Silent (rs ++ qs)
silent_append [] qs p q = q
silent_append (r ∷ rs) qs p q = (p.0, silent_append rs qs p.1 q)

silent_passed : (rs qs : List Record) (S T : List ℕ) → Silent rs → length S ≡ length rs → outputs_in (rs ++ qs) (S ++ T) ≡ outputs_in qs T
unfolding outputs_in
silent_passed [] qs [] T p e = refl
silent_passed [] qs (x ∷ S) T p e = absurd (omega arith)
silent_passed (r ∷ rs) qs [] T p e = absurd (omega arith)
silent_passed (r ∷ rs) qs (x ∷ S) T p e = rw (p.0, outputs_in) (silent_passed rs qs S T p.1 (omega arith))

outputs_all : (xs : List ℕ) (j : ℕ) (T : List ℕ) → length T ≡ length xs → outputs_in (output_records xs j) T ≡ T
unfolding outputs_in output_records
outputs_all [] j [] e = refl
outputs_all [] j (t ∷ T) e = absurd (omega arith)
outputs_all (x ∷ xs) j [] e = absurd (omega arith)
outputs_all (x ∷ xs) j (t ∷ T) e = ap (λ (l : List ℕ). t ∷ l) (outputs_all xs (j + 1) T (omega arith))

inputs_silent : (is : List ℕ) → Silent (input_records is)
unfolding input_records
inputs_silent [] = tt
inputs_silent (i ∷ is) = (refl, inputs_silent is)

gates_silent : (k : ℕ) (rs : List Record) → Gates k rs → Silent rs
gates_silent k [] h = tt
gates_silent k (r ∷ rs) h = (ne_eqb r.op output_op (omega (arith, h.0.high)), gates_silent (k + 1) rs h.1)

-- slots that are made are below the next one
pub early_below : (S : List ℕ) (k : ℕ) → k ≡ length S → (xs : List ℕ) → Early S xs → Below k xs
early_below S k e [] h = tt
early_below S k e (x ∷ xs) h = (omega (arith, h.0), early_below S k e xs h.1)

module _ (N : Netlist) (v : valid N ≡ true) (ins : List ℕ) (bits : Trits ins) where
  -- the cells' records are gates over slots made before
  pub placed_gates : {P Q : ℕ → Bool} {L : List ℕ} → Placing (reads_of N) (length N.cells) P L Q → ((j : ℕ) → apart N j ≡ true → P j ≡ true)
      → (S : List ℕ) (slots values : ℕ → List ℕ) (k : ℕ) → k ≡ length S → Held N P S slots values → Gates k (cell_records L N k slots)
  unfolding cell_records
  placed_gates (done s) a S slots values k e h = tt
  placed_gates (step {P} {Q} {r} {L} l d run) a S slots values k e h =
      let m = cell_made N r k slots in
      let c = cell_at N r in
      let K = h.constants in
      let q = asks N v ins bits P S slots values h k e r l d in
      let S' = slots_from m.records ins S in
      let u : apart N r ≡ false = bool_cases (apart N r) (λ t. never_both (a r t) (ready_unplaced (reads_of N) P r d)) (λ f. f) in
      let w : Held N (place P r) S' (updated slots r m.outs) (updated values r (rule_of N ins values r)) = rw (rule_is N v ins bits values r u) (held_more N v ins bits P S slots values h k e r l d) in
      let g = kind_gates c.kind k (bits_from slots c.a) (bits_from slots c.b) (bits_from slots c.c) (omega (arith, K.three))
      (early_below S k e (bits_from slots c.a) (operand_early S K slots values c.a q.0)) (early_below S k e (bits_from slots c.b) (operand_early S K slots values c.b q.1)) (early_below S k e (bits_from slots c.c) (operand_early S K slots values c.c q.2)) in
      gates_append k m.records (cell_records L N (k + length m.records) (updated slots r m.outs)) (k + length m.records) refl g.all
      (placed_gates run (λ j t. place_keeps P r j (a j t)) S' (updated slots r m.outs) (updated values r (rule_of N ins values r)) (k + length m.records) (omega (arith, slots_length m.records ins S)) w)

-- the whole
module _ (N : Netlist) (v : valid N ≡ true) (free : ringed N ≡ false) (ins : List ℕ) (given : assigns (input_bits N) ins ≡ true) where
  abbrev n : ℕ
  n = length N.cells

  abbrev bits : Trits ins
  bits = given_trits N ins given

  abbrev ended : Rattle.graph.proofs.Order.Ends (reads_of N) n (apart N) (order (reads_of N) n (apart N))
  ended = order_placing (reads_of N) n (apart N)

  -- the slots where inputs and cells are done
  abbrev pub inner : List Record
  inner = cell_records (placing_of N) N (3 + input_bits N) (input_slots N)

  abbrev pub made : List ℕ
  made = slots_from inner ins (begun ins)

  begun_length : 3 + input_bits N ≡ length (begun ins)
  begun_length = omega (arith, given_length N ins given)

  abbrev values : ℕ → List ℕ
  values = values_from (placing_of N) N ins (assigned N ins)

  all_held : Held N ended.marks made (slots_of N) values
  unfolding placing_of
  all_held = placed_held N v ins bits ended.run (λ j t. t) (begun ins) (input_slots N) (assigned N ins) (3 + input_bits N) begun_length (start_held N ins given)

  -- every row is placed
  all_placed_lem : (j : ℕ) → j < n → ended.marks j ≡ true
  unfolding ringed
  all_placed_lem j l = placing_marks (reads_of N) n ended.run j ∙ all_in (reads_of N) n (apart N) free j l

  pub outputs_right : Early made (outputs_from (slots_of N) N) × (values_in made (outputs_from (slots_of N) N) ≡ evaluation N ins)
  unfolding outputs_from evaluation
  outputs_right =
      outputs_held made all_held.constants (slots_of N) values N.cells
      (λ i l e. (cell_asks N v (Linked made (slots_of N) values) i l (λ j w m. all_held.linked j (all_placed_lem j (omega (arith, w.below, length-map N.cells (λ (c : Cell). c.width)))) (wide_no_output N v j w))).0)

  abbrev outs : List ℕ
  outs = outputs_from (slots_of N) N

  abbrev before : List Record
  before = constants ++ (input_records (up_from 0 (input_bits N)) ++ inner)

  regroup : translation N ≡ before ++ output_records outs 0
  unfolding translation
  regroup = ap (λ (l : List Record). constants ++ l) (sym (append_assoc (input_records (up_from 0 (input_bits N))) inner (output_records outs 0)))

  before_ran : slots_from before ins [] ≡ made
  unfolding slots_from
  before_ran =
      slots_append (input_records (up_from 0 (input_bits N))) inner ins (0 ∷ 1 ∷ 2 ∷ [])
      ∙ ap (slots_from inner ins) (inputs_ran (input_bits N) 0 ins (0 ∷ 1 ∷ 2 ∷ []) (omega (arith, given_length N ins given)))

  -- THE SLOTS of a whole translation: those of inputs and cells, and the output bits behind them
  pub translation_ran : slots_from (translation N) ins [] ≡ made ++ evaluation N ins
  translation_ran =
      ap (λ (l : List Record). slots_from l ins []) regroup
      ∙ slots_append before (output_records outs 0) ins []
      ∙ ap (slots_from (output_records outs 0) ins) (before_ran ∙ sym (append-nil made))
      ∙ outputs_ran ins made [] outs 0 outputs_right.0
      ∙ ap₂ (λ (a b : List ℕ). a ++ b) (append-nil made) outputs_right.1

  pub cells_gates : Gates (3 + input_bits N) inner
  unfolding placing_of
  cells_gates = placed_gates N v ins bits ended.run (λ j t. t) (begun ins) (input_slots N) (assigned N ins) (3 + input_bits N) begun_length (start_held N ins given)

  before_silent : Silent before
  before_silent =
      (refl, (refl, (refl, silent_append (input_records (up_from 0 (input_bits N))) inner (inputs_silent (up_from 0 (input_bits N))) (gates_silent (3 + input_bits N) inner cells_gates))))

  pub made_length : length made ≡ 3 + input_bits N + length inner
  made_length = slots_length inner ins (begun ins) ∙ omega (arith, begun_length)

  before_length : length made ≡ length before
  before_length = ap length (sym before_ran) ∙ slots_length before ins [] ∙ omega arith

  -- DEMAND 3: the outputs of the run are the netlist's
  pub translation_gives : outputs_in (translation N) (slots_from (translation N) ins []) ≡ evaluation N ins
  translation_gives =
      ap₂ (λ (rs : List Record) (l : List ℕ). outputs_in rs l) regroup translation_ran
      ∙ silent_passed before (output_records outs 0) made (evaluation N ins) before_silent before_length
      ∙ outputs_all outs 0 (evaluation N ins) (ap length (sym outputs_right.1) ∙ length-map outs (at made))
