-- The two ends of a translation: constants and inputs before the cells, outputs behind them.
use mathlib.Core.Path.{◌≡◌, refl, ap, ap₂, ◌∙◌, sym, subst}
use mathlib.Core.Bool.{true, false, ◌||◌}
use mathlib.Core.Logic.{⊎_elim}
use mathlib.Core.List.{List, [], ◌∷◌, ◌++◌, append_assoc, append-nil}
use Prim.Native.Nat.{ℕ, zero, suc, ◌+◌, ◌<◌, ◌≤◌}
use native.Mathlib.Omega.{arith}
use native.Mathlib.Decide.{dec_lt}
use lib.Dec.{eqb, ltb}
use lib.ListN.{length, get_or, take, drop, drop_of_length-le, get_or-eq_default}
use borrow.Author.Tests.{eqb-true, ltb-true}
use Rattle.ground.specs.Lists.{every, total, joined, up_from}
use Rattle.ground.specs.Regions.{part}
use Rattle.ground.proofs.Bools.{bool_cases, and_true, never_both, or_true, every_first}
use Rattle.ground.proofs.Rest.{rest_cons}
use Rattle.trit.specs.Trit.{Trits}
use Rattle.kinds.specs.Kinds.{input_kind, output_kind}
use Rattle.netlist.specs.Netlist.{Cell, Netlist}
use Rattle.loadlist.specs.Run.{slots_from, assigns}
use Rattle.cells.proofs.Running.{at, reads_of as values_in, Early, old, new, reads_append, early_append}
use Rattle.cells.proofs.Linking.{Constants, Linked, RunsAsk, operand_early, operand_held}
use Rattle.placing.specs.Placing.{no_cell, cell_at, input_width, input_start, input_bits, output_from, apart}
use Rattle.evaluating.specs.Evaluation.{assigned}
use Rattle.translating.specs.Translation.{input_records, input_slots, output_records}
use Rattle.translating.proofs.Placed.{Held}

-- INPUTS: their records add the input bits
pub inputs_ran : (n i : ℕ) (ins S : List ℕ) → i + n ≡ length ins → slots_from (input_records (up_from i n)) ins S ≡ S ++ drop i ins
unfolding input_records up_from slots_from
inputs_ran zero i ins S e = sym (append-nil S) ∙ ap (λ (l : List ℕ). S ++ l) (sym (drop_of_length-le ins {i = i} (omega arith)))
inputs_ran (suc n) i ins S e =
    inputs_ran n (i + 1) ins (S ++ (get_or ins i 0 ∷ [])) (omega arith)
    ∙ append_assoc S (get_or ins i 0 ∷ []) (drop (i + 1) ins)
    ∙ ap (λ (l : List ℕ). S ++ l) (sym (rest_cons ins i (omega arith)))

-- the slots behind the constants hold the input bits
abbrev pub begun : List ℕ → List ℕ
begun ins = 0 ∷ 1 ∷ 2 ∷ ins

input_holds : (ins : List ℕ) (w s : ℕ) → s + w ≤ length ins → values_in (begun ins) (up_from (3 + s) w) ≡ part s w ins
unfolding up_from part
input_holds ins zero s l = refl
input_holds ins (suc w) s l =
    let e : 3 + s + 1 ≡ 3 + (s + 1) = omega arith in
    ap₂ (λ (x : ℕ) (xs : List ℕ). x ∷ xs) (new (0 ∷ 1 ∷ 2 ∷ []) ins (3 + s) s refl) (ap (λ (z : ℕ). values_in (begun ins) (up_from z w)) e ∙ input_holds ins w (s + 1) (omega arith))
    ∙ ap (λ (l : List ℕ). take (suc w) l) (sym (rest_cons ins s (omega arith)))

input_early : (ins : List ℕ) (w s : ℕ) → s + w ≤ length ins → Early (begun ins) (up_from (3 + s) w)
unfolding up_from
input_early ins zero s l = tt
input_early ins (suc w) s l =
    let e : 3 + s + 1 ≡ 3 + (s + 1) = omega arith in
    (omega arith, subst (λ (z : ℕ). Early (begun ins) (up_from z w)) (sym e) (input_early ins w (s + 1) (omega arith)))

-- a row's share lies within the whole
pub total_within : (f : Cell → ℕ) (cs : List Cell) (row : ℕ) → row < length cs → total f (take row cs) + f (get_or cs row no_cell) ≤ total f cs
unfolding total
total_within f [] row l = absurd (omega arith)
total_within f (c ∷ cs) zero l = omega arith
total_within f (c ∷ cs) (suc row) l = omega (arith, total_within f cs row (omega arith))

bits_trits : (ins : List ℕ) → every (λ x. ltb x 3) ins ≡ true → Trits ins
bits_trits [] h = tt
bits_trits (x ∷ xs) h = let p = every_first (λ x. ltb x 3) x xs h in (ltb-true x 3 p.0, bits_trits xs p.1)

module _ (N : Netlist) (ins : List ℕ) (given : assigns (input_bits N) ins ≡ true) where
  pub given_length : length ins ≡ input_bits N
  given_length = eqb-true (length ins) (input_bits N) (and_true (eqb (length ins) (input_bits N)) (every (λ x. ltb x 3) ins) given).0

  pub given_trits : Trits ins
  given_trits = bits_trits ins (and_true (eqb (length ins) (input_bits N)) (every (λ x. ltb x 3) ins) given).1

  -- an input row's slots hold what is assigned to it
  input_linked : (row : ℕ) → row < length N.cells → eqb (cell_at N row).kind input_kind ≡ true → Linked (begun ins) (input_slots N) (assigned N ins) row
  unfolding input_slots assigned
  input_linked row l e =
      let w : input_width (cell_at N row) ≡ (cell_at N row).width = rw e in
      let fits : input_start N row + (cell_at N row).width ≤ length ins = omega (arith, total_within input_width N.cells row l, w, given_length) in
      record {
        early = rw w (input_early ins (cell_at N row).width (input_start N row) fits);
        holds = rw (w, e) (input_holds ins (cell_at N row).width (input_start N row) fits);
      }

  -- THE START: constants and inputs
  pub start_held : Held N (apart N) (begun ins) (input_slots N) (assigned N ins)
  start_held = record {
    trits = (omega arith, (omega arith, (omega arith, given_trits)));
    constants = record { three = omega arith; zero' = refl; one' = refl; x' = refl };
    linked = λ j p o. go j p o (dec_lt j (length N.cells));
  }
    where
      go : (j : ℕ) → apart N j ≡ true → eqb (cell_at N j).kind output_kind ≡ false → Dec (j < length N.cells) → Linked (begun ins) (input_slots N) (assigned N ins) j
      go j p o (yes l) = ⊎_elim (λ e. input_linked j l e) (λ e. never_both e o) (or_true (eqb (cell_at N j).kind input_kind) (eqb (cell_at N j).kind output_kind) p)
      go j p o (no l) = never_both (subst (λ (c : Cell). eqb c.kind input_kind || eqb c.kind output_kind ≡ true) (get_or-eq_default N.cells no_cell (omega arith)) p) refl

-- OUTPUTS: their records copy the slots named
pub outputs_ran : (ins S T xs : List ℕ) (j : ℕ) → Early S xs → slots_from (output_records xs j) ins (S ++ T) ≡ (S ++ T) ++ values_in S xs
unfolding output_records slots_from
outputs_ran ins S T [] j h = sym (append-nil (S ++ T))
outputs_ran ins S T (x ∷ xs) j h =
    ap (slots_from (output_records xs (j + 1)) ins) (append_assoc S T (at (S ++ T) x ∷ []) ∙ ap (λ (v : ℕ). S ++ (T ++ (v ∷ []))) (old S T x h.0))
    ∙ outputs_ran ins S (T ++ (at S x ∷ [])) xs (j + 1) h.1
    ∙ ap (λ (l : List ℕ). l ++ values_in S xs) (sym (append_assoc S T (at S x ∷ [])))
    ∙ append_assoc (S ++ T) (at S x ∷ []) (values_in S xs)

-- the outputs' slots hold their values, where each output's operand is held
pub outputs_held : (S : List ℕ) (c : Constants S) (slots values : ℕ → List ℕ) (cs : List Cell)
    → ((i : ℕ) → i < length cs → eqb (get_or cs i no_cell).kind output_kind ≡ true → RunsAsk (Linked S slots values) (get_or cs i no_cell).a)
    → Early S (joined (output_from slots) cs) × (values_in S (joined (output_from slots) cs) ≡ joined (output_from values) cs)
unfolding joined
outputs_held S c slots values [] h = (tt, refl)
outputs_held S c slots values (x ∷ cs) h =
    let ih = outputs_held S c slots values cs (λ i l. h (suc i) (omega arith)) in
    let p = bool_cases (eqb x.kind output_kind) (λ e. one e) (λ e. none e) in
    (early_append S (output_from slots x) (joined (output_from slots) cs) p.0 ih.0, reads_append S (output_from slots x) (joined (output_from slots) cs) ∙ ap₂ (λ (a b : List ℕ). a ++ b) p.1 ih.1)
  where
    one : eqb x.kind output_kind ≡ true → Early S (output_from slots x) × (values_in S (output_from slots x) ≡ output_from values x)
    one e = rw e (operand_early S c slots values x.a (h 0 (omega arith) e), operand_held S c slots values x.a (h 0 (omega arith) e))

    none : eqb x.kind output_kind ≡ false → Early S (output_from slots x) × (values_in S (output_from slots x) ≡ output_from values x)
    none e = rw e (tt, refl)
