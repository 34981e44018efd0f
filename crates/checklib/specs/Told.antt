-- What a caller in C is told of a check and of a lookup of I/O.
use Rattle.ground.specs.declared.Refusal.{Refusal}
use Rattle.std.specs.Prelude.{ℕ, Result, Ok, Err}
use Rattle.textlib.specs.Told.{told_of}
use Rattle.textlib.specs.declared.Told.{Told}
use Rattle.checklib.specs.declared.Pad.{Pad}

abbrev pub told_check : Result (Unit {0}) Refusal → Told
told_check (Ok tt) = told_of 0 0
told_check (Err g) = told_of g.number g.place.at

abbrev pub pad_of : ℕ → ℕ → ℕ → ℕ → Pad
pad_of row width number place = record { row = row; width = width; number = number; place = place }

abbrev pub told_pad : Result (ℕ × ℕ) Refusal → Pad
told_pad (Ok (row, width)) = pad_of row width 0 0
told_pad (Err g) = pad_of 0 0 g.number g.place.at
