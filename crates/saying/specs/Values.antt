-- What a declaration says, as a value: strings decoded, references as rows, operands as longest runs over the author's numbers.
use Rattle.std.specs.Prelude.{ℕ, zero, suc, ◌+◌, ◌-◌, Bool, true, false, List, [], ◌∷◌, ◌++◌, map, eqb}
use Rattle.ground.specs.Choice.{pick}
use Rattle.ground.specs.Lists.{joined}
use Rattle.ground.specs.Regions.{part}
use Rattle.signs.specs.Bytes.{trit_of}
use Rattle.signs.specs.Pieces.{decoded}
use Rattle.brackets.specs.Parts.{parts_at}
use Rattle.brackets.specs.declared.Str.{Str}
use Rattle.brackets.specs.declared.Ref.{Ref}
use Rattle.brackets.specs.declared.Piece.{Piece}
use Rattle.brackets.specs.declared.Base.{Base}
use Rattle.brackets.specs.declared.Base.TheVariants as base
use Rattle.brackets.specs.declared.Part.{Part}
use Rattle.brackets.specs.declared.Part.TheVariants as part
use Rattle.brackets.specs.declared.Operand.{Operand}
use Rattle.form.specs.declared.Label.{Label}
use Rattle.form.specs.declared.Label.TheVariants as label
use Rattle.form.specs.declared.Payload.{Payload}
use Rattle.form.specs.declared.Payload.TheVariants as payload
use Rattle.form.specs.declared.Range.{Range}
use Rattle.netlist.specs.Netlist.{Run, const, piece, Meta, Cell, source_meta, scope_meta, indexed_meta, bits_meta, integer_meta, string_meta}
use Rattle.netlist.specs.Runs.{Bit, falling, known_bits, cut}

-- the row of an author's number plus one; 0 where it is not declared
unfoldable pub row_from : List ℕ → ℕ → ℕ → ℕ
row_from [] index row = 0
row_from (n ∷ ns) index row = elim (eqb n index) [ true ↦ row | false ↦ row_from ns index (row + 1) ]

abbrev pub row_of : List ℕ → ℕ → ℕ
row_of numbers index = row_from numbers index 1

-- a reference as a row plus one, 0 where none is written
abbrev pub ref_row : List ℕ → Ref → ℕ
ref_row numbers r = pick r.given (row_of numbers r.index) 0

abbrev pub string_in : List ℕ → Str → List ℕ
string_in text s = decoded text s.from

-- Document 01, Text: "Constants are `0 1 X`, most significant left"
abbrev pub trits_in : List ℕ → Str → List ℕ
trits_in text s = map trit_of (part s.from s.size text)

-- OPERANDS: Document 01, Text: "`%i` is bit 0, `%i:w` bits 0 to w-1, `%i+o` bit o, `%i+o:w` bits o to o+w-1 .. The first part is the
-- most significant."
abbrev pub base_bits : List ℕ → Base → List Bit
base_bits text (base.Constant s) = known_bits (trits_in text s)
base_bits text (base.Cell p) = falling p.cell p.offset p.width

unfoldable pub copies : ℕ → List Bit → List Bit
copies zero bs = []
copies (suc n) bs = bs ++ copies n bs

abbrev pub part_bits : List ℕ → Part → List Bit
part_bits text (part.One b) = base_bits text b
part_bits text (part.Repeated b n) = copies n (base_bits text b)

unfoldable pub operand_runs : List ℕ → Operand → List Run
operand_runs text o = cut (joined (λ p. part_bits text p.part) (parts_at text o))

-- METADATA
abbrev pub meta : ℕ → List ℕ → List ℕ → List ℕ → List ℕ → ℕ → ℕ → ℕ → Meta
meta kind name text members bits inside source number =
    record { kind = kind; name = name; text = text; members = members; bits = bits; inside = inside; source = source; number = number; line = 0; column = 0; end_line = 0; end_column = 0 }

abbrev pub source_of : List ℕ → Range → Meta
source_of file r =
    record { kind = source_meta; name = file; text = []; members = []; bits = []; inside = 0; source = 0; number = 0; line = r.first.line; column = r.first.column; end_line = r.last.line; end_column = r.last.column }

abbrev pub scope_of : List ℕ → Label → ℕ → ℕ → Meta
scope_of text (label.Named s) inside source = meta scope_meta (string_in text s) [] [] [] inside source 0
scope_of text (label.Indexed n) inside source = meta indexed_meta [] [] [] [] inside source n

abbrev pub attr_of : List ℕ → List ℕ → Payload → Meta
attr_of text name (payload.Bits s) = meta bits_meta name [] [] (trits_in text s) 0 0 0
attr_of text name (payload.Integer n) = meta integer_meta name [] [] [] 0 0 n
attr_of text name (payload.Text s) = meta string_meta name (string_in text s) [] [] 0 0 0

-- CELLS
abbrev pub name_in : List ℕ → Bool → Str → List ℕ
name_in text named s = pick named (string_in text s) []

-- the author's cell numbers become rows
abbrev pub row_run : List ℕ → Run → Run
row_run numbers (const ts) = const ts
row_run numbers (piece n o w) = piece (row_of numbers n - 1) o w

abbrev pub row_cell : List ℕ → Cell → Cell
row_cell numbers c = record {
  kind = c.kind;
  width = c.width;
  name = c.name;
  meta = c.meta;
  a = map (row_run numbers) c.a;
  b = map (row_run numbers) c.b;
  c = map (row_run numbers) c.c;
}
