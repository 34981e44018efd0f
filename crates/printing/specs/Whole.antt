-- The canonical text as it is written, with what follows it; and what its writer asks of tables, which good ones have.
use Rattle.std.specs.Prelude.{ℕ, ◌≤◌, ◌≡◌, true, List, ◌∷◌, length, get_or}
use Rattle.ground.specs.Choice.{pick}
use Rattle.ground.specs.Lists.{every}
use Rattle.ground.specs.Regions.{part}
use Rattle.netlist.specs.Netlist.{Netlist}
use Rattle.netlist.specs.Rules.{is_trit}
use Rattle.netlist.specs.Tables.{Tables, tables_in}
use Rattle.numbering.specs.Numbers.{row_widths, narrow}
use Rattle.lines.specs.Lines.{is_bare, lines}

unfoldable pub canonical_then : Netlist → List ℕ → List ℕ
canonical_then N k = pick (is_bare N) (10 ∷ k) (lines N k)

-- regions of their lengths, rows within the limits, trits that are trits, widths within the limit
pub record Sound (T : Tables) : Type 0 where
  pub metas : length T.metas ≡ 8192
  pub ios : length T.ios ≡ 192
  pub cells : length T.cells ≡ 4608
  pub runs : length T.runs ≡ 12288
  pub few : (T.meta_count ≤ 512) × (T.io_count ≤ 64) × (T.cell_count ≤ 512)
  pub trits : (every is_trit T.attr_bits ≡ true) × (every is_trit T.run_bits ≡ true)
  pub widths : every narrow (row_widths T.cell_count T.cells) ≡ true

-- lent tables that are long enough and sound
pub record Ready (rows strings bits : List ℕ) : Type 0 where
  pub rows_long : 26307 ≤ length rows
  pub strings_long : 16384 ≤ length strings
  pub bits_long : 393728 ≤ length bits
  pub sound : Sound (tables_in rows strings bits)

-- the widths of all cells, as lent rows hold them
abbrev pub cell_widths : List ℕ → List ℕ
cell_widths rows = row_widths (get_or rows 2 0) (part 9411 4608 rows)
