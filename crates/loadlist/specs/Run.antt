-- The run of a load list: each record makes its slot, outputs in order. Refusals 1, 22, 23, 24.
use Rattle.ground.specs.declared.Refusal.{Refusal}
use Rattle.std.specs.Prelude.{ℕ, Bool, true, false, not, ◌&&◌, List, [], ◌∷◌, ◌++◌, ltb, eqb, length, get_or, Result, Ok, Err}
use Rattle.std.proofs.Math.Option.{Option, none, some}
use Rattle.ground.specs.Choice.{pick}
use Rattle.ground.specs.Lists.{every}
use Rattle.ground.specs.Refusals.{at, refusal}
use Rattle.ground.specs.Regions.{zeros, pad, over}
use Rattle.trit.specs.Trit.{not_of, and_of, or_of, xor_of}
use Rattle.loadlist.specs.Records.{input_op, not_op, and_op, or_op, xor_op, output_op}
use Rattle.loadlist.specs.Check.{records, records_with, bad_record}
use Rattle.loadlist.specs.declared.Record.{Record}

-- what a record makes of the input bits and of the slots made before it; an output's slot is a copy
abbrev pub slot_of : Record → List ℕ → List ℕ → ℕ
slot_of r ins slots =
    pick (ltb r.op input_op) r.op
    (pick (eqb r.op input_op) (get_or ins r.first 0)
    (pick (eqb r.op not_op) (not_of (get_or slots r.first 0))
    (pick (eqb r.op and_op) (and_of (get_or slots r.first 0) (get_or slots r.second 0))
    (pick (eqb r.op or_op) (or_of (get_or slots r.first 0) (get_or slots r.second 0))
    (pick (eqb r.op xor_op) (xor_of (get_or slots r.first 0) (get_or slots r.second 0))
    (get_or slots r.first 0))))))

-- "Record k makes slot k"
unfoldable pub slots_from : List Record → List ℕ → List ℕ → List ℕ
slots_from [] ins slots = slots
slots_from (r ∷ rs) ins slots = slots_from rs ins (slots ++ (slot_of r ins slots ∷ []))

-- the slots of the output records, in order
unfoldable pub outputs_in : List Record → List ℕ → List ℕ
outputs_in [] slots = []
outputs_in (r ∷ rs) [] = []
outputs_in (r ∷ rs) (x ∷ slots) = elim (eqb r.op output_op) [ true ↦ x ∷ outputs_in rs slots | false ↦ outputs_in rs slots ]

abbrev pub slots : List ℕ → List ℕ → List ℕ
slots list ins = slots_from (records list) ins []

abbrev pub outputs : List ℕ → List ℕ → List ℕ
outputs list ins = outputs_in (records list) (slots list ins)

-- 23: "assignment of wrong length, or a byte above 2 (X is 2)"
abbrev pub assigns : ℕ → List ℕ → Bool
assigns n ins = eqb (length ins) n && every (λ x. ltb x 3) ins

pub record Outcome : Type 0 where
  pub answer : Result ℕ Refusal
  pub outs : List ℕ
  pub work : List ℕ

abbrev pub made : Result ℕ Refusal → List ℕ → List ℕ → Outcome
made answer outs work = record { answer = answer; outs = outs; work = work }

-- the work space: a byte a slot
abbrev pub work_length : ℕ
work_length = 8192

-- "Work space is zero after every call but one refused 1 (unchanged) and a run that succeeds, when it holds the slots, a byte each,
-- then zeros"
abbrev pub refused : ℕ → ℕ → List ℕ → List ℕ → Outcome
refused n k outs work = made (Err (refusal n (at k))) outs (over work_length (zeros work_length) work)

abbrev pub ran_from : Option ℕ → List ℕ → List ℕ → List ℕ → List ℕ → Outcome
ran_from (some k) list ins outs work = refused 22 k outs work
ran_from none list ins outs work =
    pick (not (assigns (records_with input_op (records list)) ins)) (refused 23 0 outs work)
    (pick (ltb (length outs) (length (outputs list ins))) (refused 24 0 outs work)
    (made (Ok (length (outputs list ins))) (over (length (outputs list ins)) (outputs list ins) outs)
    (over work_length (pad work_length (slots list ins)) work)))

-- THE OUTCOME OF A RUN
unfoldable pub run_of : List ℕ → List ℕ → List ℕ → List ℕ → Outcome
run_of list ins outs work =
    pick (ltb (length work) work_length) (made (Err (refusal 1 (at 0))) outs work)
    (ran_from (bad_record list) list ins outs work)
