-- What the callers of `next_byte` and `decode` see.
use Rattle.std.specs.Prelude.{ℕ, ◌+◌, List, length, get_or}
use Rattle.std.proofs.lemmas.List.Edits.{sets}
use Rattle.signs.specs.Pieces.{decoded, taken_at}
use Rattle.signs.specs.declared.pieces.Meant.{Meant}

-- Document 01, Text: "`\` and two of `0-9a-f` is that byte". The first byte that the string from the place k on means, and the place
-- past what is written for it.
unfoldable pub meant_at : List ℕ → ℕ → Meant
meant_at text k = record { byte = get_or (decoded text k) 0 0; end = k + taken_at text k }

-- How many bytes a string means, and the lent room with these bytes written from its start on. A byte past the end of the room is
-- dropped, so that the room may be short, and the size says how long it would have to be.
pub record Decoding : Type 0 where
  pub size : ℕ
  pub room : List ℕ

abbrev pub seen : ℕ → List ℕ → Decoding
seen n room = record { size = n; room = room }

-- of the string behind the opening `"` whose first byte stands at the place k
abbrev pub decoded_into : List ℕ → ℕ → List ℕ → Decoding
decoded_into text k room = seen (length (decoded text k)) (sets room 0 (decoded text k))
