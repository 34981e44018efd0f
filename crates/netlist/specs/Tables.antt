-- The tables that hold a netlist. Document 01, Room: "Unused places hold zero. Rows keep text order .. Strings, set members and runs
-- lie in the order of the canonical text, without gaps or sharing." docs/LAYOUT.md has each field with its offset.
use Rattle.std.specs.Prelude.{ℕ, ◌+◌, List, [], ◌∷◌, ◌++◌, length, get_or, take}
use Rattle.ground.specs.Regions.{pad, part}
use Rattle.netlist.specs.Netlist.{Run, const, piece, Meta, Io, Cell, Netlist, strings_of, meta_strings, members_of, attr_bits_of, cell_runs, runs_of, bits_in, run_bits_of}
use Rattle.ground.specs.Lists.{joined}

-- the regions: counts of rows, then rows and pools
pub record Tables : Type 0 where
  pub meta_count : ℕ
  pub io_count : ℕ
  pub cell_count : ℕ
  pub metas : List ℕ
  pub members : List ℕ
  pub ios : List ℕ
  pub cells : List ℕ
  pub runs : List ℕ
  pub strings : List ℕ
  pub attr_bits : List ℕ
  pub run_bits : List ℕ

-- THE ROWS. `s` is where the next string lies, `m` the next member, `b` the next trit, `r` the next run: a start is the running
-- total in every row, also where what it starts is empty.
abbrev pub meta_row : ℕ → ℕ → ℕ → Meta → List ℕ
meta_row s m b x =
    x.kind ∷ s ∷ length x.name ∷ (s + length x.name) ∷ length x.text ∷ m ∷ length x.members ∷ b ∷ length x.bits
    ∷ x.inside ∷ x.source ∷ x.number ∷ x.line ∷ x.column ∷ x.end_line ∷ x.end_column ∷ []

unfoldable pub meta_rows : ℕ → ℕ → ℕ → List Meta → List ℕ
meta_rows s m b [] = []
meta_rows s m b (x ∷ xs) =
    meta_row s m b x ++ meta_rows (s + length (x.name ++ x.text)) (m + length x.members) (b + length x.bits) xs

abbrev pub io_row : ℕ → Io → List ℕ
io_row s i = s ∷ length i.name ∷ i.width ∷ []

unfoldable pub io_rows : ℕ → List Io → List ℕ
io_rows s [] = []
io_rows s (i ∷ is) = io_row s i ++ io_rows (s + length i.name) is

abbrev pub cell_row : ℕ → ℕ → Cell → List ℕ
cell_row s r c = c.kind ∷ c.width ∷ s ∷ length c.name ∷ c.meta ∷ r ∷ length c.a ∷ length c.b ∷ length c.c ∷ []

unfoldable pub cell_rows : ℕ → ℕ → List Cell → List ℕ
cell_rows s r [] = []
cell_rows s r (c ∷ cs) = cell_row s r c ++ cell_rows (s + length c.name) (r + length (cell_runs c)) cs

-- 0 and the start of the trits, or the cell's row plus one and the offset; then the width
abbrev pub run_row : ℕ → Run → List ℕ
run_row b (const ts) = 0 ∷ b ∷ length ts ∷ []
run_row b (piece row o w) = (row + 1) ∷ o ∷ w ∷ []

unfoldable pub run_rows : ℕ → List Run → List ℕ
run_rows b [] = []
run_rows b (r ∷ rs) = run_row b r ++ run_rows (b + length (bits_in r)) rs

-- THE LAYOUT: 512 rows of 16 words, 1,024 members, 64 rows of 3, 512 rows of 9, 4,096 rows of 3, 16,384 string bytes, 512 times 256
-- trits of attributes, and 512 times 513 trits of runs, which is more than cells of any widths can hold
abbrev pub io_start : Netlist → ℕ
io_start N = length (meta_strings N.metas)

abbrev pub cell_start : Netlist → ℕ
cell_start N = length (meta_strings N.metas) + length (joined (λ i. i.name) N.ios)

unfoldable pub layout : Netlist → Tables
layout N = record {
  meta_count = length N.metas;
  io_count = length N.ios;
  cell_count = length N.cells;
  metas = pad 8192 (meta_rows 0 0 0 N.metas);
  members = pad 1024 (members_of N.metas);
  ios = pad 192 (io_rows (io_start N) N.ios);
  cells = pad 4608 (cell_rows (cell_start N) 0 N.cells);
  runs = pad 12288 (run_rows 0 (runs_of N.cells));
  strings = pad 16384 (strings_of N);
  attr_bits = pad 131072 (attr_bits_of N.metas);
  run_bits = pad 262656 (run_bits_of (runs_of N.cells));
}

-- THE LENT SLICES: rows of 26,307 words, strings of 16,384 bytes, trits of 393,728 bytes
abbrev pub rows_length : ℕ
rows_length = 26307

abbrev pub strings_length : ℕ
strings_length = 16384

abbrev pub bits_length : ℕ
bits_length = 393728

unfoldable pub rows_of : Tables → List ℕ
rows_of T = T.meta_count ∷ T.io_count ∷ T.cell_count ∷ (T.metas ++ (T.members ++ (T.ios ++ (T.cells ++ T.runs))))

unfoldable pub bits_of : Tables → List ℕ
bits_of T = T.attr_bits ++ T.run_bits

-- the tables in lent slices: of a longer one only the fixed length counts
unfoldable pub tables_in : List ℕ → List ℕ → List ℕ → Tables
tables_in rows strings bits = record {
  meta_count = get_or rows 0 0;
  io_count = get_or rows 1 0;
  cell_count = get_or rows 2 0;
  metas = part 3 8192 rows;
  members = part 8195 1024 rows;
  ios = part 9219 192 rows;
  cells = part 9411 4608 rows;
  runs = part 14019 12288 rows;
  strings = take 16384 strings;
  attr_bits = part 0 131072 bits;
  run_bits = part 131072 262656 bits;
}
