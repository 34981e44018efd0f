-- Places and refusals by their numbers.
use Rattle.std.specs.Prelude.{ℕ}
use Rattle.ground.specs.declared.Place.{Place}
use Rattle.ground.specs.declared.Refusal.{Refusal}

abbrev pub at : ℕ → Place
at k = record { at = k }

abbrev pub refusal : ℕ → Place → Refusal
refusal n p = record { number = n; place = p }
