-- The lookup over pads. Document 01, I/O: "A lookup gives the first I/O row whose name equals the asked one".
use Rattle.std.specs.Prelude.{Bool, false, List, [], ◌∷◌, ℕ, zero, suc, ◌+◌, ltb, length, drop}
use Rattle.ground.specs.Choice.{pick}
use Rattle.ground.specs.Regions.{part}
use Rattle.ground.specs.Text.{same}
use Rattle.netlist.specs.View.{word}
use Rattle.pads.specs.declared.Pad.{Pad}

-- a row of the I/O region as a pad
abbrev pub pad_in : List ℕ → Pad
pad_in row = record { start = word row 0; length = word row 1; width = word row 2 }

unfoldable pub pads_in : ℕ → List ℕ → List Pad
pads_in zero rows = []
pads_in (suc n) rows = pad_in rows ∷ pads_in n (drop 3 rows)

-- whether a pad's name lies in the strings and equals the asked one
unfoldable pub pad_named : List ℕ → Pad → List ℕ → Bool
pad_named strings pad name =
    pick (ltb (length strings) (pad.start + pad.length)) false (same (part pad.start pad.length strings) name)

-- "the first I/O row" among the next n, counted from a row, or the row behind them
unfoldable pub first_from : List ℕ → List ℕ → ℕ → ℕ → List Pad → ℕ
first_from strings name zero row pads = row
first_from strings name (suc n) row [] = row
first_from strings name (suc n) row (pad ∷ pads) = pick (pad_named strings pad name) row (first_from strings name n (suc row) pads)

abbrev pub first_pad : List ℕ → List ℕ → List Pad → ℕ
first_pad strings name pads = first_from strings name (length pads) 0 pads
