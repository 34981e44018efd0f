-- The list of a translation passes the check, and reads back as its records.
use mathlib.Core.Path.{◌≡◌, refl, ap, ◌∙◌, sym, subst}
use mathlib.Core.Bool.{true, false, ◌&&◌}
use mathlib.Core.List.{List, [], ◌∷◌, ◌++◌}
use mathlib.Core.Option.{none}
use Prim.Native.Nat.{ℕ, zero, suc, ◌+◌, ◌*◌, ◌<◌, ◌≤◌}
use native.Mathlib.Omega.{arith}
use native.Mathlib.Decide.{ℕ_discrete}
use lib.Dec.{eqb, leb, ltb}
use lib.ListN.{length, replicate, length-replicate}
use borrow.Author.Tests.{eq-eqb, ne_eqb, lt-ltb, le-ltb, le-leb, lt-leb}
use Rattle.ground.specs.Lists.{every, joined, up_from}
use Rattle.ground.proofs.Bools.{true_and}
use Rattle.netlist.specs.Netlist.{Netlist}
use Rattle.netlist.specs.Rules.{valid}
use Rattle.loadlist.specs.Records.{list_bytes, record_bytes, input_op, output_op}
use Rattle.loadlist.specs.Check.{marked, is_whole, first_fits, second_fits, good_record, counted, bad_record_from, record_count, bad_record}
use Rattle.loadlist.specs.Run.{assigns, outputs}
use Rattle.loadlist.specs.declared.Record.{Record}
use Rattle.loadlist.proofs.Written.{read_back, records_back}
use Rattle.cells.proofs.Fields.{GateAt, Gates, Below, below_more}
use Rattle.placing.specs.Placing.{input_bits, outputs_from, ringed}
use Rattle.evaluating.specs.Evaluation.{evaluation}
use Rattle.translating.specs.Translation.{input_records, output_records, slots_of, translation, record_sum}
use Rattle.translating.proofs.Whole.{inner, cells_gates, outputs_right, early_below, made, made_length, translation_gives}
use Rattle.translating.proofs.Counting.{translation_count}

-- record k is good where i inputs and o outputs stand before it
pub record GoodAt (k i o : ℕ) (r : Record) : Type 0 where
  pub known : r.op ≤ 8
  pub first : first_fits r k i ≡ true
  pub second : second_fits r k o ≡ true

abbrev pub GoodFrom : ℕ → ℕ → ℕ → List Record → Type 0
GoodFrom k i o [] = Unit {0}
GoodFrom k i o (r ∷ rs) = GoodAt k i o r × GoodFrom (k + 1) (counted input_op r i) (counted output_op r o) rs

good_bytes : (k i o : ℕ) (r : Record) (t : List ℕ) → k < 8192 → GoodAt k i o r → good_record (record_bytes r ++ t) k i o ≡ true
unfolding good_record
good_bytes k i o r t l g =
    subst (λ (q : Record). ltb k 8192 && (is_whole (record_bytes r ++ t) && (marked (record_bytes r ++ t) && (leb q.op 8 && (first_fits q k i && second_fits q k o)))) ≡ true) (sym (read_back r t))
    (true_and (ltb k 8192) _ (lt-ltb k 8192 l) (true_and (leb r.op 8) _ (le-leb r.op 8 g.known) (true_and (first_fits r k i) (second_fits r k o) g.first g.second)))

length_list : (rs : List Record) → length (list_bytes rs) ≡ 8 * length rs
unfolding joined
length_list [] = refl
length_list (r ∷ rs) = omega (arith, length_list rs)

good_none : (rs : List Record) (k i o : ℕ) → k + length rs ≤ 8192 → GoodFrom k i o rs → bad_record_from (length rs) (list_bytes rs) k i o ≡ none
unfolding bad_record_from joined
good_none [] k i o l g = refl
good_none (r ∷ rs) k i o l g =
    rw (good_bytes k i o r (list_bytes rs) (omega arith) g.0, bad_record_from)
    (subst (λ (q : Record). bad_record_from (length rs) (list_bytes rs) (k + 1) (counted input_op q i) (counted output_op q o) ≡ none) (sym (read_back r (list_bytes rs)))
    (good_none rs (k + 1) (counted input_op r i) (counted output_op r o) (omega arith) g.1))

-- records that are good one by one make a list that passes
pub good_passes : (rs : List Record) → length rs ≤ 8192 → GoodFrom 0 0 0 rs → bad_record (list_bytes rs) ≡ none
unfolding bad_record
good_passes rs l g =
    let e : record_count (list_bytes rs) ≡ length rs = omega (arith, length_list rs) in
    rw e (good_none rs 0 0 0 (omega arith) g)

-- INPUTS in order, and then what follows
inputs_good : (n i k o : ℕ) (rest : List Record) → GoodFrom (k + n) (i + n) o rest → GoodFrom k i o (input_records (up_from i n) ++ rest)
unfolding input_records up_from
inputs_good zero i k o rest g = subst (λ (z : ℕ). GoodFrom z i o rest) (omega arith) (subst (λ (z : ℕ). GoodFrom (k + 0) z o rest) (omega arith) g)
inputs_good (suc n) i k o rest g = (
  record { known = omega arith; first = eq-eqb i i refl; second = refl },
  subst (λ (z : ℕ). GoodFrom (k + 1) (i + 1) z (input_records (up_from (i + 1) n) ++ rest)) (omega arith)
      (inputs_good n (i + 1) (k + 1) o rest (subst (λ (z : ℕ). GoodFrom z (i + 1 + n) o rest) (omega arith) (subst (λ (z : ℕ). GoodFrom (k + suc n) z o rest) (omega arith) g))),
)

-- GATES over slots made before
gate_good : (k i o : ℕ) (r : Record) → GateAt k r → GoodAt k i o r
gate_good k i o r g = record {
  known = omega (arith, g.high);
  first = rw (le-ltb r.op 3 (omega (arith, g.low)), ne_eqb r.op 3 (omega (arith, g.low))) (lt-ltb r.first k g.first);
  second = go (ℕ_discrete r.op 4);
}
  where
    go : Dec (r.op ≡ 4) → second_fits r k o ≡ true
    go (yes e) = rw (le-leb r.op 4 (omega arith)) (eq-eqb r.second 0 (g.unary e))
    go (no e) = rw (lt-leb r.op 4 (omega (arith, g.low)), ne_eqb r.op 8 (omega (arith, g.high))) (lt-ltb r.second k g.second)

gates_good : (rs : List Record) (k i o : ℕ) (rest : List Record) → Gates k rs → GoodFrom (k + length rs) i o rest → GoodFrom k i o (rs ++ rest)
gates_good [] k i o rest h g = subst (λ (z : ℕ). GoodFrom z i o rest) (omega arith) g
gates_good (r ∷ rs) k i o rest h g = (
  gate_good k i o r h.0,
  subst (λ (z : ℕ). GoodFrom (k + 1) z (counted output_op r o) (rs ++ rest)) (sym same_in)
      (subst (λ (z : ℕ). GoodFrom (k + 1) i z (rs ++ rest)) (sym same_out) (gates_good rs (k + 1) i o rest h.1 (subst (λ (z : ℕ). GoodFrom z i o rest) (omega arith) g))),
)
  where
    same_in : counted input_op r i ≡ i
    same_in = rw (ne_eqb r.op input_op (omega (arith, h.0.low))) (omega arith)

    same_out : counted output_op r o ≡ o
    same_out = rw (ne_eqb r.op output_op (omega (arith, h.0.high))) (omega arith)

-- OUTPUTS in order
outputs_good : (xs : List ℕ) (k i o : ℕ) → Below k xs → GoodFrom k i o (output_records xs o)
unfolding output_records
outputs_good [] k i o h = tt
outputs_good (x ∷ xs) k i o h = (
  record { known = omega arith; first = lt-ltb x k h.0; second = eq-eqb o o refl },
  subst (λ (z : ℕ). GoodFrom (k + 1) z (o + 1) (output_records xs (o + 1))) (omega arith) (outputs_good xs (k + 1) i (o + 1) (below_more k (k + 1) (omega arith) xs h.1)),
)

-- all inputs 0: a setting that every netlist has
zero_bits : (n : ℕ) → every (λ x. ltb x 3) (replicate n 0) ≡ true
unfolding every
zero_bits zero = refl
zero_bits (suc n) = zero_bits n

module _ (N : Netlist) (v : valid N ≡ true) (free : ringed N ≡ false) where
  abbrev low : List ℕ
  low = replicate (input_bits N) 0

  low_given : assigns (input_bits N) low ≡ true
  low_given = true_and (eqb (length low) (input_bits N)) _ (eq-eqb (length low) (input_bits N) (length-replicate (input_bits N) 0)) (zero_bits (input_bits N))

  abbrev cell_part : List Record
  cell_part = inner N v free low low_given

  abbrev outs : List ℕ
  outs = outputs_from (slots_of N) N

  outs_below : Below (3 + input_bits N + length cell_part) outs
  outs_below = early_below (made N v free low low_given) (3 + input_bits N + length cell_part) (sym (made_length N v free low low_given)) outs (outputs_right N v free low low_given).0

  all_good : GoodFrom 0 0 0 (translation N)
  unfolding translation
  all_good = (
    record { known = omega arith; first = refl; second = refl },
    (
      record { known = omega arith; first = refl; second = refl },
      (
        record { known = omega arith; first = refl; second = refl },
        inputs_good (input_bits N) 0 3 0 (cell_part ++ output_records outs 0)
            (gates_good cell_part (3 + input_bits N) (0 + input_bits N) 0 (output_records outs 0) (cells_gates N v free low low_given)
            (outputs_good outs (3 + input_bits N + length cell_part) (0 + input_bits N) 0 outs_below)),
      ),
    ),
  )

  -- THE LIST PASSES ITS CHECK, where the table's sum is within the limit
  pub translation_passes : record_sum N ≤ 8192 → bad_record (list_bytes (translation N)) ≡ none
  translation_passes l = good_passes (translation N) (omega (arith, translation_count N v free)) all_good

  -- .. and has 8 bytes a record
  pub translation_bytes : length (list_bytes (translation N)) ≡ 8 * record_sum N
  translation_bytes = length_list (translation N) ∙ ap (λ (n : ℕ). 8 * n) (translation_count N v free)

  -- THE BYTES OF THE LIST, run, give the netlist's output bits
  pub list_gives : (ins : List ℕ) → assigns (input_bits N) ins ≡ true → outputs (list_bytes (translation N)) ins ≡ evaluation N ins
  list_gives ins given = rw (records_back (translation N)) (translation_gives N v free ins given)
