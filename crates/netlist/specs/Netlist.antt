-- A netlist as a value: metadata, I/O and cells, each in text order. Document 01, Room: "Rows keep text order; author's cell and
-- metadata numbers aren't kept."
use Rattle.std.specs.Prelude.{ℕ, Bool, ◌||◌, List, [], ◌++◌, eqb, length}
use Rattle.ground.specs.Lists.{total, joined}

-- Document 01, Canonical text: "constant bits, or falling consecutive bits of one cell". A constant's trits stand with the most
-- significant first; `piece row o w` is the bits o+w-1 down to o of the cell in that row.
pub data Run : Type 0 where
  const : List ℕ → Run
  piece : ℕ → ℕ → ℕ → Run

-- THE KINDS OF METADATA. Document 01: "The five kinds of 001 (set, source, scope, ident, attr)"; a scope has a name or an index,
-- an attribute a constant, an integer or a string.
abbrev pub set_meta : ℕ
set_meta = 1

abbrev pub source_meta : ℕ
source_meta = 2

abbrev pub scope_meta : ℕ
scope_meta = 3

abbrev pub indexed_meta : ℕ
indexed_meta = 4

abbrev pub ident_meta : ℕ
ident_meta = 5

abbrev pub bits_meta : ℕ
bits_meta = 6

abbrev pub integer_meta : ℕ
integer_meta = 7

abbrev pub string_meta : ℕ
string_meta = 8

abbrev pub is_scope : ℕ → Bool
is_scope kind = eqb kind scope_meta || eqb kind indexed_meta

-- Metadata of any kind; what a kind does not have is empty or 0. A reference is the row that it names plus one, 0 where there is
-- none. A `#` number is held in 32 bits, a negative one as its two's complement.
pub record Meta : Type 0 where
  pub kind : ℕ
  -- a file, or the name of a scope, an ident or an attribute
  pub name : List ℕ
  -- an attribute's string
  pub text : List ℕ
  -- the members of a set
  pub members : List ℕ
  -- an attribute's constant, the most significant trit first
  pub bits : List ℕ
  -- `in=`
  pub inside : ℕ
  -- `src=`
  pub source : ℕ
  -- the index of a scope, an attribute's integer
  pub number : ℕ
  -- a source range
  pub line : ℕ
  pub column : ℕ
  pub end_line : ℕ
  pub end_column : ℕ

pub record Io : Type 0 where
  pub name : List ℕ
  pub width : ℕ

-- A cell of any kind (its number in the table of keywords); a kind without a name or an operand has an empty one.
pub record Cell : Type 0 where
  pub kind : ℕ
  pub width : ℕ
  pub name : List ℕ
  -- its metadata: a row plus one, 0 where there is none
  pub meta : ℕ
  pub a : List Run
  pub b : List Run
  pub c : List Run

pub record Netlist : Type 0 where
  pub metas : List Meta
  pub ios : List Io
  pub cells : List Cell

-- WIDTHS
abbrev pub run_width : Run → ℕ
run_width (const ts) = length ts
run_width (piece row o w) = w

abbrev pub operand_width : List Run → ℕ
operand_width rs = total run_width rs

-- WHAT LIES IN THE POOLS, in the order of the canonical text
abbrev pub meta_strings : List Meta → List ℕ
meta_strings ms = joined (λ m. m.name ++ m.text) ms

abbrev pub strings_of : Netlist → List ℕ
strings_of N = meta_strings N.metas ++ (joined (λ i. i.name) N.ios ++ joined (λ c. c.name) N.cells)

abbrev pub members_of : List Meta → List ℕ
members_of ms = joined (λ m. m.members) ms

abbrev pub attr_bits_of : List Meta → List ℕ
attr_bits_of ms = joined (λ m. m.bits) ms

abbrev pub cell_runs : Cell → List Run
cell_runs c = c.a ++ (c.b ++ c.c)

abbrev pub runs_of : List Cell → List Run
runs_of cs = joined cell_runs cs

abbrev pub bits_in : Run → List ℕ
bits_in (const ts) = ts
bits_in (piece row o w) = []

abbrev pub run_bits_of : List Run → List ℕ
run_bits_of rs = joined bits_in rs
