-- Worked cases, computed: numbers, strings, operands, and a netlist of each kind of line.
use Prim.Native.Nat.{ℕ}
use Prim.Native.String.{String}
use mathlib.Core.Path.{◌≡◌, refl}
use mathlib.Core.List.{List, [], ◌∷◌, ◌++◌, map}
use Rattle.ground.specs.Lists.{total}
use Rattle.ground.specs.Text.{bytes}
use Rattle.kinds.specs.Kinds.{kind_at}
use Rattle.netlist.specs.Netlist.{Run, const, piece, Meta, Io, Cell, Netlist}
use Rattle.writing.specs.Decimal.{digits, places, decimal, signed}
use Rattle.writing.specs.Words.{text, number, hash, escaped, quoted, trits, reference, references, option}
use Rattle.operands.specs.Operands.{offset, width, runs, operand}
use Rattle.numbering.specs.Numbers.{numbers_from}
use Rattle.celllines.specs.CellLines.{name_text, operand_text, cell_line, cell_lines}
use Rattle.lines.specs.Lines.{point, meta_lines, io_lines, lines, canonical}

-- a printed form, and how it reads
pub record Shown : Type 0 where
  pub form : List ℕ
  pub is : String

abbrev shown : List ℕ → String → Shown
shown f s = record { form = f; is = s }

-- cells of the widths 1, 4 and 1, numbered by widths
abbrev drawn : List Run → List ℕ
drawn rs = operand (0 ∷ 1 ∷ 5 ∷ []) (1 ∷ 4 ∷ 1 ∷ []) rs []

forms : List Shown
forms =
    shown (decimal 0) "0"
    ∷ shown (decimal 10) "10"
    ∷ shown (decimal 65535) "65535"
    ∷ shown (hash 2147483647 []) "#2147483647"
    ∷ shown (hash 2147483648 []) "#-2147483648"
    ∷ shown (hash 4294967295 []) "#-1"
    ∷ shown (quoted (0x00 ∷ 0x1f ∷ 0x20 ∷ 0x22 ∷ 0x5c ∷ 0x7e ∷ 0x7f ∷ 0xff ∷ []) []) "\"\\00\\1f \\22\\5c~\\7f\\ff\""
    -- a whole cell, a bit of a wider one, its bit 0, bits of it, two whole copies
    ∷ shown (drawn (piece 0 0 1 ∷ [])) "%0"
    ∷ shown (drawn (piece 1 0 4 ∷ [])) "%1:4"
    ∷ shown (drawn (piece 1 0 1 ∷ [])) "%1+0"
    ∷ shown (drawn (piece 1 3 1 ∷ [])) "%1+3"
    ∷ shown (drawn (piece 1 1 2 ∷ [])) "%1+1:2"
    ∷ shown (drawn (piece 1 0 4 ∷ piece 1 0 4 ∷ [])) "[%1:4 %1:4]"
    ∷ shown (drawn (const (1 ∷ 0 ∷ 2 ∷ []) ∷ [])) "10X"
    ∷ shown (drawn (const (2 ∷ []) ∷ piece 2 0 1 ∷ [])) "[X %5]"
    ∷ []

forms_right : map (λ (s : Shown). s.form) forms ≡ map (λ (s : Shown). bytes s.is) forms
unfolding forms total bytes digits places signed text number hash escaped quoted trits offset width runs
forms_right = refl

meta : ℕ → List ℕ → List ℕ → List ℕ → List ℕ → ℕ → ℕ → ℕ → ℕ → Meta
meta kind name payload members bits inside source number line =
    record { kind = kind; name = name; text = payload; members = members; bits = bits; inside = inside; source = source; number = number; line = line; column = 0; end_line = line; end_column = 9 }

cell : ℕ → ℕ → List ℕ → ℕ → List Run → List Run → List Run → Cell
cell kind w name m a b c = record { kind = kind; width = w; name = name; meta = m; a = a; b = b; c = c }

netlist : Netlist
unfolding meta cell
netlist = record {
  metas =
      meta 2 (bytes "top.py") [] [] [] 0 0 0 20 ∷ meta 3 (bytes "top") [] [] [] 0 1 0 0 ∷ meta 4 [] [] [] [] 2 1 4294967293 0
      ∷ meta 5 (bytes "clk") [] [] [] 3 0 0 0 ∷ meta 6 (bytes "t") [] [] (1 ∷ 2 ∷ []) 0 0 0 0 ∷ meta 7 (bytes "n") [] [] [] 0 0 7 0
      ∷ meta 8 (bytes "s") [] [] [] 0 0 0 0 ∷ meta 1 [] [] (1 ∷ 4 ∷ 7 ∷ []) [] 0 0 0 0 ∷ [];
  ios = record { name = bytes "gpio"; width = 8 } ∷ [];
  cells =
      cell 2 0 (bytes "y") 8 (const (0 ∷ []) ∷ piece 2 0 3 ∷ []) [] [] ∷ cell 1 2 (bytes "a") 0 [] [] []
      ∷ cell 9 3 [] 4 (piece 1 0 2 ∷ []) (const (1 ∷ 0 ∷ []) ∷ []) (piece 1 0 1 ∷ []) ∷ [];
}

netlist_right :
    canonical netlist ≡
    bytes "!0 = source \"top.py\" (#20 #0) (#20 #9)\n!1 = scope \"top\" src=!0\n!2 = scope #-3 in=!1 src=!0\n!3 = ident \"clk\" in=!2\n!4 = attr \"t\" 1X\n!5 = attr \"n\" #7\n!6 = attr \"s\" \"\"\n!7 = {!0 !3 !6}\n&\"gpio\":8 = io\n%0:0 = output \"y\" [0 %3:3] !7\n%1:2 = input \"a\"\n%3:3 = adc %1:2 10 %1+0 !3\n"
unfolding meta cell netlist total bytes kind_at digits places signed text number hash escaped quoted trits reference offset width runs references option point meta_lines io_lines numbers_from name_text operand_text cell_line cell_lines lines canonical
netlist_right = refl
