-- The lines of the listing: "then the list", a record of 8 bytes in hex a line.
use Rattle.std.specs.Prelude.{ℕ, ◌+◌, ◌/◌, ◌%◌, List, [], ◌∷◌, ◌++◌, ltb}
use Rattle.ground.specs.Choice.{pick}
use Rattle.ground.specs.Lists.{joined}
use Rattle.loadlist.specs.Records.{record_bytes}
use Rattle.loadlist.specs.declared.Record.{Record}

-- 0 to 9, then a to f
abbrev pub digit_of : ℕ → ℕ
digit_of x = pick (ltb x 10) (48 + x) (87 + x)

abbrev pub hex_of : ℕ → List ℕ
hex_of b = digit_of (b / 16) ∷ digit_of (b % 16) ∷ []

abbrev pub line_of : Record → List ℕ
line_of r = joined hex_of (record_bytes r) ++ (10 ∷ [])
