-- What stands in the lent tables and the work space while a text is read: notes of all that was said so far.
use Rattle.std.specs.Prelude.{◌≡◌, ℕ, ◌+◌, ◌*◌, ◌<◌, ◌≤◌, Bool, true, false, List, [], ◌∷◌, map, length, Result, Ok, Err}
use Rattle.std.proofs.Math.Option.{Option, none, some}
use Rattle.ground.specs.Lists.{joined, total}
use Rattle.ground.specs.Regions.{pad, part}
use Rattle.ground.specs.declared.Refusal.{Refusal}
use Rattle.brackets.specs.declared.Operand.{Operand}
use Rattle.form.specs.declared.Declared.{Declared}
use Rattle.netlist.specs.Netlist.{Meta, Io, Cell, Netlist, strings_of, members_of, attr_bits_of, runs_of, run_bits_of}
use Rattle.netlist.specs.Rules.{output_bits, roomy}
use Rattle.saying.specs.Pieces.{PieceAt, operand_pieces}
use Rattle.saying.specs.Rules.{Sofar, said_by, added, ruled_out}
use Rattle.saying.specs.Notes.{MetaNote, meta_note, metas_said, IoNote, io_note, ios_said, CellNote, cell_note, cells_said, SpellMetas, SpellIos, SpellCells, operand_word, Maps}
use Rattle.laying.specs.Holding.{Holds}
use Rattle.laying.specs.Bare.{Covers}
use Rattle.laying.specs.declared.Laid.{Laid}
use Rattle.noting.specs.declared.Tally.{Tally}

-- THE REGIONS of the lent slices: docs/LAYOUT.md. The work space has a map for cell numbers, one for metadata numbers, and the places
-- where the operands of each cell are read.
abbrev pub metas_in : List ℕ → List ℕ
metas_in rows = part 3 8192 rows

abbrev pub members_in : List ℕ → List ℕ
members_in rows = part 8195 1024 rows

abbrev pub ios_in : List ℕ → List ℕ
ios_in rows = part 9219 192 rows

abbrev pub cells_in : List ℕ → List ℕ
cells_in rows = part 9411 4608 rows

abbrev pub runs_in : List ℕ → List ℕ
runs_in rows = part 14019 12288 rows

abbrev pub attr_trits_in : List ℕ → List ℕ
attr_trits_in bits = part 0 131072 bits

abbrev pub run_trits_in : List ℕ → List ℕ
run_trits_in bits = part 131072 262656 bits

abbrev pub cell_map_in : List ℕ → List ℕ
cell_map_in work = part 0 65536 work

abbrev pub meta_map_in : List ℕ → List ℕ
meta_map_in work = part 65536 65536 work

abbrev pub places_in : List ℕ → List ℕ
places_in work = part 131072 1536 work

-- METADATA noted so far, with the author's numbers by row
pub record MetasHeld (text : List ℕ) (ms : List Meta) (numbers metas pool trits numbered : List ℕ) : Type 0 where
  pub notes : List MetaNote
  pub said : metas_said notes ≡ ms
  pub rows : metas ≡ pad 8192 (joined meta_note notes)
  pub spelled : SpellMetas text notes
  pub members : pool ≡ pad 1024 (members_of ms)
  pub bits : trits ≡ pad 131072 (attr_bits_of ms)
  pub narrow : length (attr_bits_of ms) ≤ length ms * 256
  pub maps : Maps numbers numbered
  pub count : length numbers ≡ length ms

-- I/O noted so far
pub record IosHeld (text : List ℕ) (is : List Io) (ios : List ℕ) : Type 0 where
  pub notes : List IoNote
  pub said : ios_said notes ≡ is
  pub rows : ios ≡ pad 192 (joined io_note notes)
  pub spelled : SpellIos text notes

-- CELLS noted so far, with the author's numbers by row and the text's pieces, which the runs cover unless a part was bare
pub record CellsHeld (text : List ℕ) (cs : List Cell) (numbers : List ℕ) (pieces : List PieceAt) (cells runs trits numbered places : List ℕ) (laid : Laid) (bare : Bool) : Type 0 where
  pub notes : List CellNote
  pub said : cells_said notes ≡ cs
  pub rows : cells ≡ pad 4608 (joined cell_note notes)
  pub spelled : SpellCells text notes
  pub holds : Holds (runs_of cs) runs trits laid
  pub narrow : length (run_bits_of (runs_of cs)) ≤ length cs * 513
  pub maps : Maps numbers numbered
  pub count : length numbers ≡ length cs
  pub operands : List Operand
  pub placed : places ≡ pad 1536 (map operand_word operands)
  pub threes : length operands ≡ length cs * 3
  pub asked : joined (operand_pieces text) operands ≡ pieces
  pub covered : bare ≡ false → Covers (runs_of cs) pieces

-- THE TALLY is right, and no limit is passed
pub record Tallied (N : Netlist) (n : Tally) : Type 0 where
  pub metas : n.metas ≡ length N.metas
  pub ios : n.ios ≡ length N.ios
  pub cells : n.cells ≡ length N.cells
  pub members : n.members ≡ length (members_of N.metas)
  pub trits : n.trits ≡ length (attr_bits_of N.metas)
  pub runs : n.runs ≡ length (runs_of N.cells)
  pub known : n.known ≡ length (run_bits_of (runs_of N.cells))
  pub declared : n.declared ≡ total (λ c. c.width) N.cells
  pub outputs : n.outputs ≡ total output_bits N.cells
  pub strings : n.strings ≡ length (strings_of N)
  pub roomy : roomy N ≡ true

-- ALL OF IT
pub record Noted (text : List ℕ) (so : Sofar) (n : Tally) (rows bits work : List ℕ) : Type 0 where
  pub long_rows : length rows ≡ 26307
  pub long_bits : length bits ≡ 393728
  pub long_work : length work ≡ 132608
  pub metas : MetasHeld text so.netlist.metas so.meta_numbers (metas_in rows) (members_in rows) (attr_trits_in bits) (meta_map_in work)
  pub ios : IosHeld text so.netlist.ios (ios_in rows)
  pub cells : CellsHeld text so.netlist.cells so.cell_numbers so.pieces (cells_in rows) (runs_in rows) (run_trits_in bits) (cell_map_in work) (places_in work) (record { runs = n.runs; trits = n.known }) n.bare
  pub tally : Tallied so.netlist n

-- .. of something said
pub record NotedSome (text : List ℕ) (n : Tally) (rows bits work : List ℕ) : Type 0 where
  pub so : Sofar
  pub noted : Noted text so n rows bits work

-- AFTER A DECLARATION: refused as the rules say, or noted with what was said before
abbrev pub After : List ℕ → Sofar → Declared → Result Tally Refusal → List ℕ → List ℕ → List ℕ → Type 0
After text so d (Err g) rows bits work = ruled_out text so d ≡ some g
After text so d (Ok n) rows bits work =
    (ruled_out text so d ≡ none) × Noted text (added so d.index (said_by text so d.decl)) n rows bits work
