-- Writing into a lent room, byte after byte: what stands in the room, and how many bytes were written so far.
use Rattle.std.specs.Prelude.{ℕ, ◌+◌, min, ◌≡◌, List, length}
use Rattle.std.proofs.lemmas.List.Edits.{sets}

pub record Stand : Type 0 where
  pub room : List ℕ
  pub count : ℕ

-- the largest count
abbrev pub most : ℕ
most = 18446744073709551615

-- Bytes written on from a count. Those that the room has no place for are dropped, and counted all the same.
unfoldable pub onward : List ℕ → ℕ → List ℕ → Stand
onward room n bytes = record { room = sets room n bytes; count = min (n + length bytes) most }

-- A writer wrote the front of a text, which is given with what follows it: whatever is written next comes to the whole text.
pub record Wrote (room : List ℕ) (n : ℕ) (text : List ℕ → List ℕ) (room' : List ℕ) (n' : ℕ) : Type 0 where
  pub goes : (k : List ℕ) → onward room' n' k ≡ onward room n (text k)

-- the same while `rest` is left to write
pub record Leaves (room : List ℕ) (n : ℕ) (text : List ℕ → List ℕ) (room' : List ℕ) (n' : ℕ) (rest : List ℕ → List ℕ) : Type 0 where
  pub goes : (k : List ℕ) → onward room' n' (rest k) ≡ onward room n (text k)
