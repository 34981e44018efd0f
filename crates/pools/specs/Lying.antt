-- What lies in a pool.
use Rattle.std.specs.Prelude.{ℕ, ◌+◌, Bool, ◌&&◌, eqb, leb}

-- "Strings, set members and runs lie in the order of the canonical text, without gaps or sharing": what a row names begins where
-- the pool so far ends, and the pool, of so much room, holds it
abbrev pub lies : ℕ → ℕ → ℕ → ℕ → Bool
lies at room start size = eqb start at && leb (at + size) room
