-- The fronts of a netlist: what its canonical text says so far, cells by their numbers.
use Rattle.std.specs.Prelude.{ℕ, ◌-◌, ◌≤◌, ◌≡◌, List, [], map, eqb, length, get_or}
use Rattle.ground.specs.Choice.{pick}
use Rattle.ground.specs.Lists.{total, up_from}
use Rattle.netlist.specs.Netlist.{Run, const, piece, Meta, Io, Cell, Netlist}
use Rattle.numbering.specs.Numbers.{numbers_from}
use Rattle.saying.specs.Values.{row_of}
use Rattle.saying.specs.Pieces.{PieceAt}
use Rattle.saying.specs.Rules.{Sofar}

-- a run and a cell by the numbers of cells, given by row
abbrev pub number_run : List ℕ → Run → Run
number_run numbers (const ts) = const ts
number_run numbers (piece row o w) = piece (get_or numbers row 0) o w

abbrev pub number_cell : List ℕ → Cell → Cell
number_cell numbers c = record {
  kind = c.kind;
  width = c.width;
  name = c.name;
  meta = c.meta;
  a = map (number_run numbers) c.a;
  b = map (number_run numbers) c.b;
  c = map (number_run numbers) c.c;
}

-- the number of the cell behind these
abbrev pub number_past : List Cell → ℕ
number_past cs = total (λ c. pick (eqb c.width 0) 1 c.width) cs

-- WHAT IS SAID SO FAR: some of the metadata; all of it and some of the I/O; both and some of the cells
abbrev pub metas_so : List Meta → Sofar
metas_so ms = record { netlist = record { metas = ms; ios = []; cells = [] }; meta_numbers = up_from 0 (length ms); cell_numbers = []; pieces = [] }

abbrev pub ios_so : List Meta → List Io → Sofar
ios_so ms is = record { netlist = record { metas = ms; ios = is; cells = [] }; meta_numbers = up_from 0 (length ms); cell_numbers = []; pieces = [] }

abbrev pub cells_so : Netlist → List Cell → List PieceAt → Sofar
cells_so N cs ps = record {
  netlist = record { metas = N.metas; ios = N.ios; cells = map (number_cell (numbers_from 0 N.cells)) cs };
  meta_numbers = up_from 0 (length N.metas);
  cell_numbers = numbers_from 0 cs;
  pieces = ps;
}

-- the metadata said so far is of these kinds, and numbered by its rows
pub record Rowed (so : Sofar) (kinds : List ℕ) : Type 0 where
  pub same : map (λ m. m.kind) so.netlist.metas ≡ kinds
  pub rows : (r : ℕ) → 1 ≤ r → r ≤ length kinds → row_of so.meta_numbers (r - 1) ≡ r
