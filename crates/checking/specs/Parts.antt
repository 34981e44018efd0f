-- The check of tables, part by part: the walk over each region's rows, the limits of Room, the names, and nothing behind.
use Rattle.std.specs.Prelude.{ℕ, ◌*◌, Bool, false, ◌&&◌, List, [], leb, drop, get_or, Option, Some, None}
use Rattle.ground.specs.Choice.{pick}
use Rattle.ground.specs.Regions.{blank, part}
use Rattle.netlist.specs.Rules.{distinct}
use Rattle.netlist.specs.Tables.{Tables}
use Rattle.checkmeta.specs.Walk.{metas_walk}
use Rattle.checkcells.specs.Runs.{widths_in}
use Rattle.checkcells.specs.Walk.{cells_walk}
use Rattle.checking.specs.Names.{io_names_in, cell_names_in}
use Rattle.checking.specs.Walk.{ios_walk}

abbrev pub metas_end : List ℕ → List ℕ → Option (ℕ × ℕ × ℕ) → Option ℕ
metas_end members bits None = None
metas_end members bits (Some (s, m, b)) = pick (blank (drop m members) && blank (drop b bits)) (Some s) None

-- "512 metadata rows"
unfoldable pub metas_part : List ℕ → List ℕ → List ℕ → ℕ → Option ℕ
metas_part rows members bits n = pick (leb n 512) (metas_end members bits (metas_walk members bits rows 0 0 0 0 n)) None

abbrev pub ios_end : Bool → Option ℕ → Option ℕ
ios_end unique None = None
ios_end unique (Some t) = pick unique (Some t) None

-- "64 I/O rows"
unfoldable pub ios_part : List ℕ → List ℕ → ℕ → ℕ → Option ℕ
ios_part rows strings n s = pick (leb n 64) (ios_end (distinct (io_names_in strings n rows)) (ios_walk rows 0 s n)) None

-- "4,096 declared cell bits; 4,096 output bits"
abbrev pub cells_end : List ℕ → List ℕ → Bool → Option (ℕ × ℕ × ℕ × ℕ × ℕ) → Option ℕ
cells_end runs bits unique None = None
cells_end runs bits unique (Some (x, r, b, d, o)) =
    pick ((leb d 4096 && leb o 4096) && ((blank (drop (r * 3) runs) && blank (drop b bits)) && unique)) (Some x) None

-- "512 cells"
unfoldable pub cells_part : List ℕ → List ℕ → List ℕ → List ℕ → ℕ → ℕ → ℕ → Option ℕ
cells_part rows runs bits strings n metas s =
    pick (leb n 512)
    (cells_end runs bits (distinct (cell_names_in strings 1 n rows) && distinct (cell_names_in strings 2 n rows))
    (cells_walk (widths_in n rows) bits runs metas rows 0 s 0 0 0 0 n))
    None

-- what follows a part that is right
abbrev pub and_then : Option ℕ → (ℕ → Option ℕ) → Option ℕ
and_then None f = None
and_then (Some s) f = f s

abbrev pub blank_from : List ℕ → Option ℕ → Bool
blank_from strings None = false
blank_from strings (Some x) = blank (drop x strings)

-- THE WHOLE: metadata, I/O, cells, and nothing behind the strings
unfoldable pub parts_good : Tables → Bool
parts_good T =
    blank_from T.strings
    (and_then (metas_part T.metas T.members T.attr_bits T.meta_count) (λ s.
    and_then (ios_part T.ios T.strings T.io_count s) (λ t.
    cells_part T.cells T.runs T.run_bits T.strings T.cell_count T.meta_count t)))

-- the parts of lent slices, from rows and trits of any length and from strings cut to theirs
unfoldable pub metas_upto : List ℕ → List ℕ → Option ℕ
metas_upto rows bits = metas_part (part 3 8192 rows) (part 8195 1024 rows) (part 0 131072 bits) (get_or rows 0 0)

unfoldable pub ios_upto : List ℕ → List ℕ → ℕ → Option ℕ
ios_upto rows strings s = ios_part (part 9219 192 rows) strings (get_or rows 1 0) s

unfoldable pub cells_upto : List ℕ → List ℕ → List ℕ → ℕ → Option ℕ
cells_upto rows strings bits s = cells_part (part 9411 4608 rows) (part 14019 12288 rows) (part 131072 262656 bits) strings (get_or rows 2 0) (get_or rows 0 0) s

-- tables by their counts and regions
abbrev pub regions : ℕ → ℕ → ℕ → List ℕ → List ℕ → List ℕ → List ℕ → List ℕ → List ℕ → List ℕ → List ℕ → Tables
regions nm ni nc metas members ios cells runs strings attrs trits = record {
  meta_count = nm;
  io_count = ni;
  cell_count = nc;
  metas = metas;
  members = members;
  ios = ios;
  cells = cells;
  runs = runs;
  strings = strings;
  attr_bits = attrs;
  run_bits = trits;
}

-- tables of which only the strings are known, as far as I/O rows need them
abbrev pub strings_alone : List ℕ → Tables
strings_alone strings = regions 0 0 0 [] [] [] [] [] strings [] []
