-- What is taken from a text: itself and the reader past it, or a refusal with its place.
use Rattle.std.specs.Prelude.{ℕ, Result, Ok, Err}
use Rattle.ground.specs.declared.Refusal.{Refusal}
use Rattle.lexis.specs.declared.Reader.{Reader}

abbrev pub Took : Type 0 → Type 0
Took A = Result (A × Reader) Refusal

-- what was taken goes on with the place behind it; a refusal is the answer
abbrev pub after : {A B : Type 0} → Took A → (A → ℕ → Result B Refusal) → Result B Refusal
after (Ok (t, r)) go = go t r.next.at
after (Err g) go = Err g
