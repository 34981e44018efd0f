-- All that a caller in C sees after an evaluation, a translation or a run: the answer as numbers, with refusal number 0 where nothing is
-- refused, and every byte of the room and of the work space.
use Rattle.ground.specs.declared.Refusal.{Refusal}
use Rattle.std.specs.Prelude.{ℕ, List, Result, Ok, Err}
use Rattle.evaluating.specs.Outcome as evaluating
use Rattle.translating.specs.Outcome as translating
use Rattle.loadlist.specs.Run as running
use Rattle.benchlib.specs.declared.Gave.{Gave}

abbrev pub gave_of : ℕ → ℕ → ℕ → Gave
gave_of count number place = record { count = count; number = number; place = place }

abbrev pub told : Result ℕ Refusal → Gave
told (Ok n) = gave_of n 0 0
told (Err g) = gave_of 0 g.number g.place.at

abbrev pub told_evaluation : Result ℕ Refusal → Gave
told_evaluation = told

abbrev pub told_translation : Result ℕ Refusal → Gave
told_translation = told

abbrev pub told_run : Result ℕ Refusal → Gave
told_run = told

pub record After : Type 0 where
  pub told : Gave
  pub room : List ℕ
  pub work : List ℕ

abbrev pub after : Gave → List ℕ → List ℕ → After
after told room work = record { told = told; room = room; work = work }

abbrev pub after_evaluation : evaluating.Outcome → After
after_evaluation o = after (told_evaluation o.answer) o.outs o.work

abbrev pub after_translation : translating.Outcome → After
after_translation o = after (told_translation o.answer) o.room o.work

abbrev pub after_run : running.Outcome → After
after_run o = after (told_run o.answer) o.outs o.work
