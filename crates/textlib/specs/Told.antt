-- What the C library tells: answers as numbers, with refusal number 0 where nothing is refused.
use Rattle.lexis.specs.declared.Token.{Token}
use Rattle.lexis.specs.Took.{Took}
use Rattle.std.specs.Prelude.{ℕ, zero, suc, ◌+◌, List, eqb, length, Result, Ok, Err, Option, Some, None}
use Rattle.ground.specs.Choice.{pick}
use Rattle.ground.specs.declared.Refusal.{Refusal}
use Rattle.scanning.specs.Whole.{whole_of}
use Rattle.lexis.specs.Tokens.{token_at, text_end}
use Rattle.textlib.specs.declared.Told.{Told}
use Rattle.textlib.specs.declared.Counted.{Counted}

abbrev pub told_of : ℕ → ℕ → Told
told_of number place = record { number = number; place = place }

abbrev pub told : Result (Unit {0}) Refusal → Told
told (Ok tt) = told_of 0 0
told (Err g) = told_of g.number g.place.at

abbrev pub counted : ℕ → Counted
counted n = record { tokens = n; number = 0; place = 0 }

abbrev pub refused_at : Refusal → Counted
refused_at g = record { tokens = 0; number = g.number; place = g.place.at }

-- a number of tokens, or a refusal
abbrev pub answer_of : Result ℕ Refusal → Counted
answer_of (Ok n) = counted n
answer_of (Err g) = refused_at g

abbrev pub moved_by : Took Token → Result (Option ℕ) Refusal
moved_by (Err g) = Err g
moved_by (Ok (t, r)) = pick (eqb t.sort text_end) (Ok None) (Ok (Some r.next.at))

-- the tokens from the place k on, n before it; each takes a byte at least
unfoldable pub tokens_from : ℕ → List ℕ → ℕ → ℕ → Counted
tokens_from zero text n k = counted n
tokens_from (suc f) text n k = elim (moved_by (token_at text k)) [
  | Err g ↦ refused_at g
  | Ok None ↦ counted n
  | Ok (Some k') ↦ tokens_from f text (n + 1) k'
]

abbrev pub tokens_in : List ℕ → Result (Unit {0}) Refusal → Counted
tokens_in text (Ok tt) = tokens_from (length text + 1) text 0 0
tokens_in text (Err g) = refused_at g

unfoldable pub tokens_of : List ℕ → Counted
tokens_of text = tokens_in text (whole_of text)
