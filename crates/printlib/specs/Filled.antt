-- All that a caller in C sees after a printing or a full name.
use Rattle.ground.specs.declared.Refusal.{Refusal}
use Rattle.std.specs.Prelude.{ℕ, List, Result, Ok, Err}
use Rattle.printing.specs.Outcome as printing
use Rattle.naming.specs.Names as naming
use Rattle.printlib.specs.declared.Wrote.{Wrote}

abbrev pub wrote_of : ℕ → ℕ → ℕ → Wrote
wrote_of length number place = record { length = length; number = number; place = place }

abbrev pub told : Result ℕ Refusal → Wrote
told (Ok n) = wrote_of n 0 0
told (Err g) = wrote_of 0 g.number g.place.at

abbrev pub told_print : Result ℕ Refusal → Wrote
told_print = told

abbrev pub told_name : Result ℕ Refusal → Wrote
told_name = told

-- an answer and every byte of the room
pub record Filled : Type 0 where
  pub told : Wrote
  pub room : List ℕ

abbrev pub filled : Wrote → List ℕ → Filled
filled told room = record { told = told; room = room }

-- the outcome of printing, its answer told as numbers
abbrev pub printed_of : printing.Outcome → Filled
printed_of o = filled (told_print o.answer) o.room

-- the outcome of naming, its answer told as numbers
abbrev pub named_of : naming.Outcome → Filled
named_of o = filled (told_name o.answer) o.room
