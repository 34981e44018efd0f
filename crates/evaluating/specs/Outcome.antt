-- All that a caller sees after an evaluation: 1, 15, 20, 23, 24.
use Rattle.ground.specs.declared.Refusal.{Refusal}
use Rattle.std.specs.Prelude.{ℕ, not, ◌||◌, List, ltb, length, Result, Ok, Err}
use Rattle.ground.specs.Choice.{pick}
use Rattle.ground.specs.Refusals.{at, refusal}
use Rattle.ground.specs.Regions.{zeros, over}
use Rattle.netlist.specs.Netlist.{Netlist}
use Rattle.netlist.specs.Tables.{tables_in}
use Rattle.netlist.specs.Good.{short, good, netlist_in}
use Rattle.loadlist.specs.Run.{assigns}
use Rattle.placing.specs.Placing.{ringed, input_bits}
use Rattle.evaluating.specs.Evaluation.{evaluation}

-- the work space, in words
abbrev pub work_length : ℕ
work_length = 8192

pub record Outcome : Type 0 where
  pub answer : Result ℕ Refusal
  pub outs : List ℕ
  pub work : List ℕ

abbrev pub made : Result ℕ Refusal → List ℕ → List ℕ → Outcome
made answer outs work = record { answer = answer; outs = outs; work = work }

abbrev pub cleared : List ℕ → List ℕ
cleared work = over work_length (zeros work_length) work

abbrev pub refused : ℕ → List ℕ → List ℕ → Outcome
refused n outs work = made (Err (refusal n (at 0))) outs (cleared work)

abbrev pub evaluated_of : Netlist → List ℕ → List ℕ → List ℕ → Outcome
evaluated_of N ins outs work =
    pick (ringed N) (refused 20 outs work)
    (pick (not (assigns (input_bits N) ins)) (refused 23 outs work)
    (pick (ltb (length outs) (length (evaluation N ins))) (refused 24 outs work)
    (made (Ok (length (evaluation N ins))) (over (length (evaluation N ins)) (evaluation N ins) outs) (cleared work))))

-- THE OUTCOME OF AN EVALUATION
unfoldable pub evaluate_of : List ℕ → List ℕ → List ℕ → List ℕ → List ℕ → List ℕ → Outcome
evaluate_of rows strings bits ins outs work =
    pick (short rows strings bits || ltb (length work) work_length) (made (Err (refusal 1 (at 0))) outs work)
    (pick (not (good (tables_in rows strings bits))) (refused 15 outs work)
    (evaluated_of (netlist_in rows strings bits) ins outs work))
