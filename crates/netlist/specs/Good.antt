-- Good tables, and what is asked of lent tables: refusals 1, 15 and 18.
use Rattle.ground.specs.declared.Refusal.{Refusal}
use Rattle.std.specs.Prelude.{ℕ, ◌+◌, Bool, true, false, ◌&&◌, ◌||◌, List, [], ◌∷◌, ltb, length, Result, Ok, Err}
use Rattle.ground.specs.Choice.{pick}
use Rattle.ground.specs.Lists.{all_of}
use Rattle.ground.specs.Refusals.{at, refusal}
use Rattle.ground.specs.Regions.{fits}
use Rattle.ground.specs.Text.{same}
use Rattle.netlist.specs.Netlist.{Io, Netlist, strings_of, members_of, attr_bits_of, runs_of, run_bits_of}
use Rattle.netlist.specs.Rules.{valid}
use Rattle.netlist.specs.Tables.{Tables, meta_rows, io_rows, cell_rows, run_rows, io_start, cell_start, rows_length, strings_length, bits_length, tables_in}
use Rattle.netlist.specs.View.{view}

-- every region holds the rows of the netlist, and zeros behind them
unfoldable pub laid : Netlist → Tables → Bool
laid N T = all_of (
    fits (meta_rows 0 0 0 N.metas) T.metas
    ∷ fits (members_of N.metas) T.members
    ∷ fits (io_rows (io_start N) N.ios) T.ios
    ∷ fits (cell_rows (cell_start N) 0 N.cells) T.cells
    ∷ fits (run_rows 0 (runs_of N.cells)) T.runs
    ∷ fits (strings_of N) T.strings
    ∷ fits (attr_bits_of N.metas) T.attr_bits
    ∷ fits (run_bits_of (runs_of N.cells)) T.run_bits
    ∷ []
    )

-- Document 01, Room: "Good tables are those so laid out that meet Text's number ranges and every rule of 9 to 14, with operands held
-- as longest runs"
unfoldable pub good : Tables → Bool
good T = laid (view T) T && valid (view T)

-- 1: "a lent table .. below its fixed length"
unfoldable pub short : List ℕ → List ℕ → List ℕ → Bool
short rows strings bits = ltb (length rows) rows_length || (ltb (length strings) strings_length || ltb (length bits) bits_length)

-- THE CHECK OF TABLES: 1, then 15 "tables aren't good"
unfoldable pub check_of : List ℕ → List ℕ → List ℕ → Result (Unit {0}) Refusal
check_of rows strings bits =
    pick (short rows strings bits) (Err (refusal 1 (at 0)))
    (pick (good (tables_in rows strings bits)) (Ok tt)
    (Err (refusal 15 (at 0))))

-- the netlist that lent tables show
abbrev pub netlist_in : List ℕ → List ℕ → List ℕ → Netlist
netlist_in rows strings bits = view (tables_in rows strings bits)

-- THE I/O LOOKUP. Document 01, I/O: "A lookup gives the first I/O row whose name equals the asked one"; 18: "no I/O row has the asked name"
unfoldable pub io_from : List Io → ℕ → List ℕ → Result (ℕ × ℕ) Refusal
io_from [] row name = Err (refusal 18 (at 0))
io_from (i ∷ is) row name = elim (same i.name name) [ true ↦ Ok (row, i.width) | false ↦ io_from is (row + 1) name ]

abbrev pub lookup : Netlist → List ℕ → Result (ℕ × ℕ) Refusal
lookup N name = io_from N.ios 0 name

abbrev pub found_after : Result (Unit {0}) Refusal → Result (ℕ × ℕ) Refusal → Result (ℕ × ℕ) Refusal
found_after (Ok tt) f = f
found_after (Err g) f = Err g

unfoldable pub lookup_of : List ℕ → List ℕ → List ℕ → List ℕ → Result (ℕ × ℕ) Refusal
lookup_of rows strings bits name = found_after (check_of rows strings bits) (lookup (netlist_in rows strings bits) name)
