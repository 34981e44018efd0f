-- The canonical text. Document 01, Canonical text: "Metadata, then I/O, then cells, one line each".
use Rattle.std.specs.Prelude.{ℕ, ◌+◌, Bool, ◌&&◌, List, [], ◌∷◌, ◌++◌, eqb, length}
use Rattle.ground.specs.Choice.{pick}
use Rattle.netlist.specs.Netlist.{Meta, Io, Netlist, set_meta, source_meta, scope_meta, indexed_meta, ident_meta, bits_meta, integer_meta}
use Rattle.netlist.specs.Rules.{widths_of}
use Rattle.writing.specs.Words.{text, number, hash, quoted, trits, reference, references, option}
use Rattle.numbering.specs.Numbers.{numbers_from}
use Rattle.celllines.specs.CellLines.{cell_lines}

-- METADATA: "numbered 0, 1, .."; `(#<line> #<column>)` is a place of a source
unfoldable pub point : ℕ → ℕ → List ℕ → List ℕ
point line column k = 40 ∷ hash line (32 ∷ hash column (41 ∷ k))

-- `scope` with its name or index, and the options
abbrev pub scope_line : Meta → List ℕ → List ℕ
scope_line m k = option (text " in=" []) m.inside (option (text " src=" []) m.source k)

-- "The five kinds of 001 (set, source, scope, ident, attr)"
abbrev pub set_text : Meta → List ℕ → List ℕ
set_text m k = 123 ∷ references m.members (125 ∷ k)

abbrev pub source_text : Meta → List ℕ → List ℕ
source_text m k = text "source " (quoted m.name (32 ∷ point m.line m.column (32 ∷ point m.end_line m.end_column k)))

abbrev pub scope_text : Meta → List ℕ → List ℕ
scope_text m k = text "scope " (quoted m.name (scope_line m k))

abbrev pub indexed_text : Meta → List ℕ → List ℕ
indexed_text m k = text "scope " (hash m.number (scope_line m k))

abbrev pub ident_text : Meta → List ℕ → List ℕ
ident_text m k = text "ident " (quoted m.name (text " in=" (reference m.inside k)))

-- an attribute's constant, integer or string
abbrev pub attr_value : Meta → List ℕ → List ℕ
attr_value m k = pick (eqb m.kind bits_meta) (trits m.bits k) (pick (eqb m.kind integer_meta) (hash m.number k) (quoted m.text k))

abbrev pub attr_text : Meta → List ℕ → List ℕ
attr_text m k = text "attr " (quoted m.name (32 ∷ attr_value m k))

abbrev pub meta_body : Meta → List ℕ → List ℕ
meta_body m k =
    pick (eqb m.kind set_meta) (set_text m k)
    (pick (eqb m.kind source_meta) (source_text m k)
    (pick (eqb m.kind scope_meta) (scope_text m k)
    (pick (eqb m.kind indexed_meta) (indexed_text m k)
    (pick (eqb m.kind ident_meta) (ident_text m k)
    (attr_text m k)))))

-- "one line each"
abbrev pub meta_line : ℕ → Meta → List ℕ → List ℕ
meta_line row m k = 33 ∷ number row (text " = " (meta_body m (10 ∷ k)))

unfoldable pub meta_lines : ℕ → List Meta → List ℕ → List ℕ
meta_lines row [] k = k
meta_lines row (m ∷ ms) k = meta_line row m (meta_lines (row + 1) ms k)

-- I/O
abbrev pub io_line : Io → List ℕ → List ℕ
io_line i k = 38 ∷ quoted i.name (58 ∷ number i.width (text " = io" (10 ∷ k)))

unfoldable pub io_lines : List Io → List ℕ → List ℕ
io_lines [] k = k
io_lines (i ∷ is) k = io_line i (io_lines is k)

-- THE CANONICAL TEXT. "No declarations: one LF."
abbrev pub is_bare : Netlist → Bool
is_bare N = eqb (length N.metas) 0 && (eqb (length N.ios) 0 && eqb (length N.cells) 0)

unfoldable pub lines : Netlist → List ℕ → List ℕ
lines N k =
    meta_lines 0 N.metas (io_lines N.ios
    (cell_lines (numbers_from 0 N.cells) (widths_of N.cells) (numbers_from 0 N.cells) N.cells k))

unfoldable pub canonical : Netlist → List ℕ
canonical N = pick (is_bare N) (10 ∷ []) (lines N [])
