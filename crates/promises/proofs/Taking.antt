-- The list of a translation takes as many input bits as the netlist has.
use mathlib.Core.Path.{◌≡◌, refl, ap, ◌∙◌, sym}
use mathlib.Core.Bool.{true, false}
use mathlib.Core.List.{List, [], ◌∷◌, ◌++◌}
use Prim.Native.Nat.{ℕ, zero, suc, ◌+◌, ◌≤◌}
use native.Mathlib.Omega.{arith}
use lib.Dec.{eqb}
use borrow.Author.Tests.{ne_eqb}
use Rattle.ground.specs.Lists.{total, up_from}
use Rattle.netlist.specs.Netlist.{Netlist}
use Rattle.netlist.specs.Rules.{valid}
use Rattle.loadlist.specs.Records.{list_bytes, input_op}
use Rattle.loadlist.specs.Check.{records, records_with}
use Rattle.loadlist.specs.Run.{assigns}
use Rattle.loadlist.specs.declared.Record.{Record}
use Rattle.loadlist.proofs.Written.{records_back}
use Rattle.cells.proofs.Fields.{Gates}
use Rattle.placing.specs.Placing.{input_bits, outputs_from, ringed}
use Rattle.translating.specs.Translation.{constants, input_records, output_records, slots_of, translation}
use Rattle.translating.proofs.Whole.{inner, cells_gates}

-- constants are none
constants_uncounted : (rest : List Record) → records_with input_op (constants ++ rest) ≡ records_with input_op rest
unfolding total
constants_uncounted rest = omega arith

-- each input record is one
inputs_counted : (n i : ℕ) (rest : List Record) → records_with input_op (input_records (up_from i n) ++ rest) ≡ n + records_with input_op rest
unfolding input_records up_from total
inputs_counted zero i rest = omega arith
inputs_counted (suc n) i rest = omega (arith, inputs_counted n (i + 1) rest)

-- gates are none
gates_uncounted : (rs : List Record) (k : ℕ) (rest : List Record) → Gates k rs → records_with input_op (rs ++ rest) ≡ records_with input_op rest
unfolding total
gates_uncounted [] k rest g = refl
gates_uncounted (r ∷ rs) k rest g = rw (ne_eqb r.op input_op (omega (arith, g.0.low))) (omega (arith, gates_uncounted rs (k + 1) rest g.1))

-- outputs are none
outputs_uncounted : (xs : List ℕ) (j : ℕ) → records_with input_op (output_records xs j) ≡ 0
unfolding output_records total
outputs_uncounted [] j = refl
outputs_uncounted (x ∷ xs) j = omega (arith, outputs_uncounted xs (j + 1))

module _ (N : Netlist) (v : valid N ≡ true) (free : ringed N ≡ false) (ins : List ℕ) (given : assigns (input_bits N) ins ≡ true) where
  pub translation_inputs : records_with input_op (records (list_bytes (translation N))) ≡ input_bits N
  unfolding translation
  translation_inputs =
      let outs = output_records (outputs_from (slots_of N) N) 0 in
      let placed = inner N v free ins given in
      let g = gates_uncounted placed (3 + input_bits N) outs (cells_gates N v free ins given) in
      rw (records_back (translation N))
      (constants_uncounted (input_records (up_from 0 (input_bits N)) ++ (placed ++ outs)) ∙ inputs_counted (input_bits N) 0 (placed ++ outs) ∙ omega (arith, g, outputs_uncounted (outputs_from (slots_of N) N) 0))
