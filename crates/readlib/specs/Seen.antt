-- All that a caller in C sees after a read.
use Rattle.ground.specs.declared.Refusal.{Refusal}
use Rattle.std.specs.Prelude.{ℕ, List, Result, Ok, Err}
use Rattle.reading.specs.Outcome.{Outcome}
use Rattle.textlib.specs.Told.{told_of}
use Rattle.textlib.specs.declared.Told.{Told}

abbrev pub told_read : Result (Unit {0}) Refusal → Told
told_read (Ok tt) = told_of 0 0
told_read (Err g) = told_of g.number g.place.at

pub record Seen : Type 0 where
  pub told : Told
  pub rows : List ℕ
  pub strings : List ℕ
  pub trits : List ℕ
  pub work : List ℕ

abbrev pub seen : Told → List ℕ → List ℕ → List ℕ → List ℕ → Seen
seen told rows strings trits work = record { told = told; rows = rows; strings = strings; trits = trits; work = work }

-- the outcome of reading, its answer told as numbers
abbrev pub seen_of : Outcome → Seen
seen_of o = seen (told_read o.answer) o.rows o.strings o.bits o.work
