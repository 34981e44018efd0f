-- The contract of each function allows one outcome.
use mathlib.Core.Path.{◌≡◌}
use mathlib.Core.List.{List}
use Prim.Native.Nat.{ℕ}
use Rattle.ground.proofs.Outcome.{any_two}
use Rattle.evaluating.specs.Outcome.{evaluate_of}
use Rattle.translating.specs.Outcome.{translate_of}
use Rattle.loadlist.specs.Run.{run_of}
use Rattle.benchlib.specs.Logic.{After, after_evaluation, after_translation, after_run}

pub evaluate_one : (rows strings trits ins outs work : List ℕ) (o p : After) → o ≡ after_evaluation (evaluate_of rows strings trits ins outs work) → p ≡ after_evaluation (evaluate_of rows strings trits ins outs work) → o ≡ p
evaluate_one rows strings trits ins outs work = any_two (λ (t : List ℕ). after_evaluation (evaluate_of rows strings trits ins outs t)) work

pub translate_one : (rows strings trits list work : List ℕ) (o p : After) → o ≡ after_translation (translate_of rows strings trits list work) → p ≡ after_translation (translate_of rows strings trits list work) → o ≡ p
translate_one rows strings trits list work = any_two (λ (t : List ℕ). after_translation (translate_of rows strings trits list t)) work

pub run_one : (list ins outs work : List ℕ) (o p : After) → o ≡ after_run (run_of list ins outs work) → p ≡ after_run (run_of list ins outs work) → o ≡ p
run_one list ins outs work = any_two (λ (t : List ℕ). after_run (run_of list ins outs t)) work
