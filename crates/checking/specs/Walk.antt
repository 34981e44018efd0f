-- A walk over I/O rows, and the check of tables region by region.
use Rattle.std.specs.Prelude.{ℕ, zero, suc, ◌+◌, ◌*◌, Bool, true, false, ◌&&◌, List, leb, drop, Option, Some, None}
use Rattle.ground.specs.Choice.{pick}
use Rattle.ground.specs.Regions.{blank}
use Rattle.kinds.specs.Kinds.{wide}
use Rattle.netlist.specs.View.{word}
use Rattle.pools.specs.Lying.{lies}

abbrev pub name_wide : ℕ → Bool
name_wide size = leb 1 size && leb size 255

-- "I/O: `&"name":w = io`, w 1 to 256": the row's name is the next string, at s
abbrev pub io_good : ℕ → List ℕ → Bool
io_good s row = lies s 16384 (word row 0) (word row 1) && (name_wide (word row 1) && wide (word row 2))

-- the rows from the row i on, of which so many are left
unfoldable pub ios_walk : List ℕ → ℕ → ℕ → ℕ → Option ℕ
ios_walk rows i s zero = pick (blank (drop (i * 3) rows)) (Some s) None
ios_walk rows i s (suc left) = elim (io_good s (drop (i * 3) rows)) [ true ↦ ios_walk rows (i + 1) (s + word (drop (i * 3) rows) 1) left | false ↦ None ]

abbrev pub upto_of : Option ℕ → ℕ
upto_of None = 0
upto_of (Some s) = s
