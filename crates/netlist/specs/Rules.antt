-- When a netlist is valid: rules 9 to 14 and the limits of Room, for a netlist whose references are rows.
use Rattle.std.specs.Prelude.{ℕ, ◌+◌, ◌-◌, Bool, true, false, not, ◌&&◌, ◌||◌, List, [], ◌∷◌, ◌++◌, map, leb, ltb, eqb, length, get_or}
use Rattle.ground.specs.Choice.{pick}
use Rattle.ground.specs.Lists.{every, all_of, total}
use Rattle.ground.specs.Text.{same}
use Rattle.kinds.specs.Kinds.{kind_at, is_kind, wide, input_kind, output_kind}
use Rattle.netlist.specs.Netlist.{Run, const, piece, Meta, Io, Cell, Netlist, set_meta, source_meta, indexed_meta, ident_meta, bits_meta, integer_meta, string_meta, is_scope, operand_width, strings_of, members_of, runs_of}
use Rattle.netlist.specs.Runs.{longest}

-- RULE 9: "index or name declared twice"
unfoldable pub taken : List ℕ → List (List ℕ) → Bool
taken name [] = false
taken name (n ∷ ns) = elim (same name n) [ true ↦ true | false ↦ taken name ns ]

unfoldable pub distinct : List (List ℕ) → Bool
distinct [] = true
distinct (n ∷ ns) = elim (taken n ns) [ true ↦ false | false ↦ distinct ns ]

abbrev pub io_names : List Io → List (List ℕ)
io_names is = map (λ i. i.name) is

-- the names of the cells of one kind: "unique among inputs, likewise outputs"
unfoldable pub names_as : ℕ → List Cell → List (List ℕ)
names_as kind [] = []
names_as kind (c ∷ cs) = elim (eqb c.kind kind) [ true ↦ c.name ∷ names_as kind cs | false ↦ names_as kind cs ]

-- RULE 10: "metadata reference missing, later or of the wrong kind". The reference names one of the earlier rows, whose kinds are
-- given, and that row's kind passes the test.
abbrev pub refers : (ℕ → Bool) → List ℕ → ℕ → Bool
refers p kinds r = leb 1 r && (leb r (length kinds) && p (get_or kinds (r - 1) 0))

-- an optional reference
abbrev pub may_refer : (ℕ → Bool) → List ℕ → ℕ → Bool
may_refer p kinds r = eqb r 0 || refers p kinds r

-- "sets have two or more members, none a set"
abbrev pub is_member : ℕ → Bool
is_member kind = not (eqb kind set_meta)

abbrev pub is_source : ℕ → Bool
is_source kind = eqb kind source_meta

abbrev pub any_kind : ℕ → Bool
any_kind kind = true

abbrev pub references : List ℕ → Meta → Bool
references kinds m = all_of (
    every (refers is_member kinds) m.members
    ∷ pick (eqb m.kind ident_meta) (refers is_scope kinds m.inside) (may_refer is_scope kinds m.inside)
    ∷ may_refer is_source kinds m.source
    ∷ []
    )

-- RULE 11: "empty name, bad range, short set"
abbrev pub has_name : ℕ → Bool
has_name kind = not (eqb kind set_meta || eqb kind indexed_meta)

abbrev pub is_empty : List ℕ → Bool
is_empty s = eqb (length s) 0

-- a `#` number below 0
abbrev pub negative : ℕ → Bool
negative n = leb 2147483648 n

-- "a source range has no negative number and doesn't end before it starts"
abbrev pub bad_range : ℕ → ℕ → ℕ → ℕ → Bool
bad_range line column end_line end_column =
    (negative line || (negative column || (negative end_line || negative end_column)))
    || (ltb end_line line || (eqb end_line line && ltb end_column column))

abbrev pub complete : Meta → Bool
complete m = all_of (
    (not (has_name m.kind) || not (is_empty m.name))
    ∷ not (bad_range m.line m.column m.end_line m.end_column)
    ∷ (not (eqb m.kind set_meta) || leb 2 (length m.members))
    ∷ []
    )

-- RULE 12: "An attribute's constant is 1 to 256 wide"; I/O: "w 1 to 256"; cells: the table's widths
abbrev pub attr_width : Meta → Bool
attr_width m = not (eqb m.kind bits_meta) || wide (length m.bits)

abbrev pub cell_width : ℕ → ℕ → ℕ → ℕ → ℕ → Bool
cell_width kind w a b c = (kind_at kind).widths w a b c

-- RULE 13: the limits of Room
abbrev pub output_bits : Cell → ℕ
output_bits c = pick (eqb c.kind output_kind) (operand_width c.a) 0

abbrev pub short_string : List ℕ → Bool
short_string s = leb (length s) 255

unfoldable pub roomy : Netlist → Bool
roomy N = all_of (
    leb (length N.cells) 512
    ∷ leb (total (λ c. c.width) N.cells) 4096
    ∷ leb (total output_bits N.cells) 4096
    ∷ leb (length (runs_of N.cells)) 4096
    ∷ leb (length N.metas) 512
    ∷ leb (length (members_of N.metas)) 1024
    ∷ leb (length N.ios) 64
    ∷ every (λ m. short_string m.name && short_string m.text) N.metas
    ∷ every (λ i. short_string i.name) N.ios
    ∷ every (λ c. short_string c.name) N.cells
    ∷ leb (length (strings_of N)) 16384
    ∷ []
    )

-- RULE 14: "A piece resolves when its cell is declared anywhere in the text and o+w is at most the cell's width". The widths of all
-- cells are given.
abbrev pub resolves : List ℕ → ℕ → ℕ → ℕ → Bool
resolves widths row o w = ltb row (length widths) && leb (o + w) (get_or widths row 0)

-- "Good tables .. meet Text's number ranges": bytes, trits, and `#` numbers of 32 bits
abbrev pub is_byte : ℕ → Bool
is_byte b = ltb b 256

abbrev pub is_trit : ℕ → Bool
is_trit t = ltb t 3

abbrev pub is_number : ℕ → Bool
is_number n = ltb n 4294967296

abbrev pub ranges : Meta → Bool
ranges m = all_of (
    every is_byte m.name
    ∷ every is_byte m.text
    ∷ every is_trit m.bits
    ∷ is_number m.number
    ∷ is_number m.line
    ∷ is_number m.column
    ∷ is_number m.end_line
    ∷ is_number m.end_column
    ∷ []
    )

-- what a kind of metadata does not have is empty or 0
abbrev pub unless : Bool → Bool → Bool
unless has unused = has || unused

abbrev pub shape : Meta → Bool
shape m = all_of (
    (leb 1 m.kind && leb m.kind 8)
    ∷ unless (has_name m.kind) (is_empty m.name)
    ∷ unless (eqb m.kind string_meta) (is_empty m.text)
    ∷ unless (eqb m.kind set_meta) (is_empty m.members)
    ∷ unless (eqb m.kind bits_meta) (is_empty m.bits)
    ∷ unless (is_scope m.kind || eqb m.kind ident_meta) (eqb m.inside 0)
    ∷ unless (is_scope m.kind) (eqb m.source 0)
    ∷ unless (eqb m.kind indexed_meta || eqb m.kind integer_meta) (eqb m.number 0)
    ∷ unless (eqb m.kind source_meta) (eqb m.line 0 && (eqb m.column 0 && (eqb m.end_line 0 && eqb m.end_column 0)))
    ∷ []
    )

-- METADATA, row after row: the kinds of the earlier rows are given
abbrev pub meta_sound : List ℕ → Meta → Bool
meta_sound kinds m = all_of (shape m ∷ ranges m ∷ references kinds m ∷ complete m ∷ attr_width m ∷ [])

unfoldable pub metas_sound : List ℕ → List Meta → Bool
metas_sound kinds [] = true
metas_sound kinds (m ∷ ms) = elim (meta_sound kinds m) [
  | true ↦ metas_sound (kinds ++ (m.kind ∷ [])) ms
  | false ↦ false
]

-- I/O
abbrev pub io_sound : Io → Bool
io_sound i = all_of (not (is_empty i.name) ∷ every is_byte i.name ∷ wide i.width ∷ [])

-- CELLS: a run has a width, its trits are trits, its piece resolves
abbrev pub run_sound : List ℕ → Run → Bool
run_sound widths (const ts) = leb 1 (length ts) && every is_trit ts
run_sound widths (piece row o w) = leb 1 w && resolves widths row o w

abbrev pub operand_sound : List ℕ → List Run → Bool
operand_sound widths rs = every (run_sound widths) rs && longest rs

abbrev pub runless : List Run → Bool
runless rs = eqb (length rs) 0

abbrev pub cell_sound : List ℕ → ℕ → Cell → Bool
cell_sound widths metas c = all_of (
    is_kind c.kind
    ∷ pick (kind_at c.kind).named (not (is_empty c.name)) (is_empty c.name)
    ∷ every is_byte c.name
    ∷ leb c.meta metas
    ∷ unless (leb 1 (kind_at c.kind).operands) (runless c.a)
    ∷ unless (leb 2 (kind_at c.kind).operands) (runless c.b)
    ∷ unless (leb 3 (kind_at c.kind).operands) (runless c.c)
    ∷ cell_width c.kind c.width (operand_width c.a) (operand_width c.b) (operand_width c.c)
    ∷ operand_sound widths c.a
    ∷ operand_sound widths c.b
    ∷ operand_sound widths c.c
    ∷ []
    )

abbrev pub widths_of : List Cell → List ℕ
widths_of cs = map (λ c. c.width) cs

-- VALID: "every rule of 9 to 14, with operands held as longest runs"
unfoldable pub valid : Netlist → Bool
valid N = all_of (
    roomy N
    ∷ metas_sound [] N.metas
    ∷ every io_sound N.ios
    ∷ distinct (io_names N.ios)
    ∷ every (cell_sound (widths_of N.cells) (length N.metas)) N.cells
    ∷ distinct (names_as input_kind N.cells)
    ∷ distinct (names_as output_kind N.cells)
    ∷ []
    )
