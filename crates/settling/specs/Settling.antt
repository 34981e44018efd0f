-- Notes that become rows: what is given, row by row, and what stands there afterwards.
use Rattle.std.specs.Prelude.{◌≡◌, ℕ, ◌+◌, ◌*◌, ◌<◌, ◌≤◌, List, [], ◌∷◌, ◌++◌, length, get_or, set}
use Rattle.std.proofs.lemmas.List.Edits.{sets}
use Rattle.ground.specs.Lists.{joined}
use Rattle.ground.specs.Regions.{pad}
use Rattle.netlist.specs.Netlist.{Io, Cell, meta_strings, members_of, attr_bits_of, runs_of}
use Rattle.netlist.specs.Tables.{meta_rows, io_rows, cell_rows}
use Rattle.saying.specs.Notes.{MetaNote, meta_note, metas_said, IoNote, io_note, ios_said, CellNote, cell_note, cells_said, spelled, SpellMetas, SpellIos, SpellCells}
use Rattle.settling.specs.declared.Starts.{Starts}
use Rattle.settling.specs.declared.CellStarts.{CellStarts}

-- A ROW OF METADATA as noted: its strings are spelled where it says, and there is room for what it brings
pub record MetaHere (text row strings : List ℕ) (so : Starts) : Type 0 where
  pub long : length row ≡ 16
  pub name : get_or row 2 0 ≡ length (spelled text (get_or row 1 0) (get_or row 2 0))
  pub second : get_or row 4 0 ≡ length (spelled text (get_or row 3 0) (get_or row 4 0))
  pub room : so.strings + get_or row 2 0 + get_or row 4 0 ≤ length strings
  pub pool : length strings ≤ 16384
  pub members : so.members + get_or row 6 0 ≤ 1024
  pub trits : so.trits + get_or row 8 0 ≤ 131072

abbrev pub meta_started : List ℕ → Starts → List ℕ
meta_started row so = set (set (set (set row 1 so.strings) 3 (so.strings + get_or row 2 0)) 5 so.members) 7 so.trits

abbrev pub meta_laid : List ℕ → List ℕ → List ℕ → Starts → List ℕ
meta_laid text row strings so =
    sets (sets strings so.strings (spelled text (get_or row 1 0) (get_or row 2 0)))
    (so.strings + get_or row 2 0) (spelled text (get_or row 3 0) (get_or row 4 0))

abbrev pub meta_next : List ℕ → Starts → Starts
meta_next row so = record {
  strings = so.strings + get_or row 2 0 + get_or row 4 0;
  members = so.members + get_or row 6 0;
  trits = so.trits + get_or row 8 0;
}

-- THE ROWS OF METADATA as noted, and as they are to stand
pub record MetasNoted (text : List ℕ) (ns : List MetaNote) (n : ℕ) (metas : List ℕ) : Type 0 where
  pub rows : metas ≡ pad 8192 (joined meta_note ns)
  pub count : length ns ≡ n
  pub few : n ≤ 512
  pub spelled : SpellMetas text ns
  pub strings : length (meta_strings (metas_said ns)) ≤ 16384
  pub members : length (members_of (metas_said ns)) ≤ 1024
  pub trits : length (attr_bits_of (metas_said ns)) ≤ 131072

pub record MetasGiven (text : List ℕ) (n : ℕ) (metas : List ℕ) : Type 0 where
  pub notes : List MetaNote
  pub noted : MetasNoted text notes n metas

pub record MetasSettled (ns : List MetaNote) (strings metas' strings' : List ℕ) (end : ℕ) : Type 0 where
  pub rows : metas' ≡ pad 8192 (meta_rows 0 0 0 (metas_said ns))
  pub laid : strings' ≡ sets strings 0 (meta_strings (metas_said ns))
  pub next : end ≡ length (meta_strings (metas_said ns))

-- whatever the rows note is settled
abbrev pub SettlesMetas : List ℕ → ℕ → List ℕ → List ℕ → List ℕ → List ℕ → ℕ → Type 0
SettlesMetas text n metas strings metas' strings' end = (ns : List MetaNote) → MetasNoted text ns n metas → MetasSettled ns strings metas' strings' end

-- I/O ROWS
pub record IoHere (text row strings : List ℕ) (s : ℕ) : Type 0 where
  pub long : length row ≡ 3
  pub name : get_or row 1 0 ≡ length (spelled text (get_or row 0 0) (get_or row 1 0))
  pub room : s + get_or row 1 0 ≤ length strings
  pub pool : length strings ≤ 16384

abbrev pub io_started : List ℕ → ℕ → List ℕ
io_started row s = set row 0 s

abbrev pub io_laid : List ℕ → List ℕ → List ℕ → ℕ → List ℕ
io_laid text row strings s = sets strings s (spelled text (get_or row 0 0) (get_or row 1 0))

abbrev pub io_next : List ℕ → ℕ → ℕ
io_next row s = s + get_or row 1 0

abbrev pub io_strings : List Io → List ℕ
io_strings is = joined (λ i. i.name) is

pub record IosNoted (text : List ℕ) (ns : List IoNote) (n first : ℕ) (ios : List ℕ) : Type 0 where
  pub rows : ios ≡ pad 192 (joined io_note ns)
  pub count : length ns ≡ n
  pub few : n ≤ 64
  pub spelled : SpellIos text ns
  pub strings : first + length (io_strings (ios_said ns)) ≤ 16384

pub record IosGiven (text : List ℕ) (n first : ℕ) (ios : List ℕ) : Type 0 where
  pub notes : List IoNote
  pub noted : IosNoted text notes n first ios

pub record IosSettled (ns : List IoNote) (first : ℕ) (strings ios' strings' : List ℕ) (end : ℕ) : Type 0 where
  pub rows : ios' ≡ pad 192 (io_rows first (ios_said ns))
  pub laid : strings' ≡ sets strings first (io_strings (ios_said ns))
  pub next : end ≡ first + length (io_strings (ios_said ns))

abbrev pub SettlesIos : List ℕ → ℕ → ℕ → List ℕ → List ℕ → List ℕ → List ℕ → ℕ → Type 0
SettlesIos text n first ios strings ios' strings' end = (ns : List IoNote) → IosNoted text ns n first ios → IosSettled ns first strings ios' strings' end

-- CELL ROWS
pub record CellHere (text row strings : List ℕ) (so : CellStarts) : Type 0 where
  pub long : length row ≡ 9
  pub name : get_or row 3 0 ≡ length (spelled text (get_or row 2 0) (get_or row 3 0))
  pub room : so.strings + get_or row 3 0 ≤ length strings
  pub pool : length strings ≤ 16384
  pub runs : so.runs + get_or row 6 0 + get_or row 7 0 + get_or row 8 0 ≤ 4096

abbrev pub cell_started : List ℕ → CellStarts → List ℕ
cell_started row so = set (set row 2 so.strings) 5 so.runs

abbrev pub cell_laid : List ℕ → List ℕ → List ℕ → CellStarts → List ℕ
cell_laid text row strings so = sets strings so.strings (spelled text (get_or row 2 0) (get_or row 3 0))

abbrev pub cell_next : List ℕ → CellStarts → CellStarts
cell_next row so = record { strings = so.strings + get_or row 3 0; runs = so.runs + get_or row 6 0 + get_or row 7 0 + get_or row 8 0 }

abbrev pub cell_strings : List Cell → List ℕ
cell_strings cs = joined (λ c. c.name) cs

pub record CellsNoted (text : List ℕ) (ns : List CellNote) (n first : ℕ) (cells : List ℕ) : Type 0 where
  pub rows : cells ≡ pad 4608 (joined cell_note ns)
  pub count : length ns ≡ n
  pub few : n ≤ 512
  pub spelled : SpellCells text ns
  pub strings : first + length (cell_strings (cells_said ns)) ≤ 16384
  pub runs : length (runs_of (cells_said ns)) ≤ 4096

pub record CellsGiven (text : List ℕ) (n first : ℕ) (cells : List ℕ) : Type 0 where
  pub notes : List CellNote
  pub noted : CellsNoted text notes n first cells

pub record CellsSettled (ns : List CellNote) (first : ℕ) (strings cells' strings' : List ℕ) (end : ℕ) : Type 0 where
  pub rows : cells' ≡ pad 4608 (cell_rows first 0 (cells_said ns))
  pub laid : strings' ≡ sets strings first (cell_strings (cells_said ns))
  pub next : end ≡ first + length (cell_strings (cells_said ns))

abbrev pub SettlesCells : List ℕ → ℕ → ℕ → List ℕ → List ℕ → List ℕ → List ℕ → ℕ → Type 0
SettlesCells text n first cells strings cells' strings' end = (ns : List CellNote) → CellsNoted text ns n first cells → CellsSettled ns first strings cells' strings' end
