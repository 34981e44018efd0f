-- The netlist that tables show, good or not: each row is read as it stands, each pool from the row's start on.
use Rattle.std.specs.Prelude.{ℕ, zero, suc, ◌+◌, ◌-◌, List, [], ◌∷◌, eqb, drop, get_or}
use Rattle.ground.specs.Choice.{pick}
use Rattle.ground.specs.Regions.{part}
use Rattle.netlist.specs.Netlist.{Run, const, piece, Meta, Io, Cell, Netlist}
use Rattle.netlist.specs.Tables.{Tables}

-- the word at a place of a row
abbrev pub word : List ℕ → ℕ → ℕ
word row i = get_or row i 0

abbrev pub meta_in : Tables → List ℕ → Meta
meta_in T row = record {
  kind = word row 0;
  name = part (word row 1) (word row 2) T.strings;
  text = part (word row 3) (word row 4) T.strings;
  members = part (word row 5) (word row 6) T.members;
  bits = part (word row 7) (word row 8) T.attr_bits;
  inside = word row 9;
  source = word row 10;
  number = word row 11;
  line = word row 12;
  column = word row 13;
  end_line = word row 14;
  end_column = word row 15;
}

unfoldable pub metas_in : Tables → ℕ → List ℕ → List Meta
metas_in T zero rows = []
metas_in T (suc n) rows = meta_in T rows ∷ metas_in T n (drop 16 rows)

abbrev pub io_in : Tables → List ℕ → Io
io_in T row = record { name = part (word row 0) (word row 1) T.strings; width = word row 2 }

unfoldable pub ios_in : Tables → ℕ → List ℕ → List Io
ios_in T zero rows = []
ios_in T (suc n) rows = io_in T rows ∷ ios_in T n (drop 3 rows)

abbrev pub run_in : Tables → List ℕ → Run
run_in T row =
    pick (eqb (word row 0) 0) (const (part (word row 1) (word row 2) T.run_bits))
    (piece (word row 0 - 1) (word row 1) (word row 2))

unfoldable pub runs_in : Tables → ℕ → List ℕ → List Run
runs_in T zero rows = []
runs_in T (suc n) rows = run_in T rows ∷ runs_in T n (drop 3 rows)

-- the runs of the whole table; an operand is a part of them
abbrev pub pool_in : Tables → List Run
pool_in T = runs_in T 4096 T.runs

abbrev pub cell_in : Tables → List Run → List ℕ → Cell
cell_in T pool row = record {
  kind = word row 0;
  width = word row 1;
  name = part (word row 2) (word row 3) T.strings;
  meta = word row 4;
  a = part (word row 5) (word row 6) pool;
  b = part (word row 5 + word row 6) (word row 7) pool;
  c = part (word row 5 + word row 6 + word row 7) (word row 8) pool;
}

unfoldable pub cells_in : Tables → List Run → ℕ → List ℕ → List Cell
cells_in T pool zero rows = []
cells_in T pool (suc n) rows = cell_in T pool rows ∷ cells_in T pool n (drop 9 rows)

unfoldable pub view : Tables → Netlist
view T = record {
  metas = metas_in T T.meta_count T.metas;
  ios = ios_in T T.io_count T.ios;
  cells = cells_in T (pool_in T) T.cell_count T.cells;
}
