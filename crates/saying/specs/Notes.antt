-- What reading notes of a row before the netlist is laid. A note's row is the row of docs/LAYOUT.md with the place in the text where a
-- string begins for that string's start, and 0 for every other start; starts follow when all is read.
use Rattle.std.specs.Prelude.{◌≡◌, ℕ, ◌+◌, ◌<◌, List, [], ◌∷◌, map, eqb, length, get_or}
use Rattle.ground.specs.Choice.{pick}
use Rattle.signs.specs.Pieces.{decoded}
use Rattle.brackets.specs.declared.Operand.{Operand}
use Rattle.netlist.specs.Netlist.{Meta, Io, Cell, Netlist}
use Rattle.saying.specs.Values.{row_of}

pub record MetaNote : Type 0 where
  pub meta : Meta
  pub name_at : ℕ
  pub text_at : ℕ

pub record IoNote : Type 0 where
  pub io : Io
  pub name_at : ℕ

pub record CellNote : Type 0 where
  pub cell : Cell
  pub name_at : ℕ

-- the rows
unfoldable pub meta_note : MetaNote → List ℕ
meta_note n =
    n.meta.kind ∷ n.name_at ∷ length n.meta.name ∷ n.text_at ∷ length n.meta.text ∷ 0 ∷ length n.meta.members
    ∷ 0 ∷ length n.meta.bits ∷ n.meta.inside ∷ n.meta.source ∷ n.meta.number
    ∷ n.meta.line ∷ n.meta.column ∷ n.meta.end_line ∷ n.meta.end_column ∷ []

unfoldable pub io_note : IoNote → List ℕ
io_note n = n.name_at ∷ length n.io.name ∷ n.io.width ∷ []

unfoldable pub cell_note : CellNote → List ℕ
cell_note n =
    n.cell.kind ∷ n.cell.width ∷ n.name_at ∷ length n.cell.name ∷ n.cell.meta
    ∷ 0 ∷ length n.cell.a ∷ length n.cell.b ∷ length n.cell.c ∷ []

-- what the notes say
abbrev pub metas_said : List MetaNote → List Meta
metas_said ns = map (λ n. n.meta) ns

abbrev pub ios_said : List IoNote → List Io
ios_said ns = map (λ n. n.io) ns

abbrev pub cells_said : List CellNote → List Cell
cells_said ns = map (λ n. n.cell) ns

-- the string of so many bytes that the text spells from the place on; an empty one stands at no place
abbrev pub spelled : List ℕ → ℕ → ℕ → List ℕ
spelled text at size = pick (eqb size 0) [] (decoded text at)

-- a string that the text spells there
pub record Spells (text : List ℕ) (at : ℕ) (s : List ℕ) : Type 0 where
  pub is : s ≡ spelled text at (length s)

-- the strings of all notes are spelled where the notes say
pub data SpellMetas (text : List ℕ) : List MetaNote → Type 0 where
  none : SpellMetas text []
  more : {n : MetaNote} {ns : List MetaNote} → Spells text n.name_at n.meta.name → Spells text n.text_at n.meta.text
      → SpellMetas text ns → SpellMetas text (n ∷ ns)

pub data SpellIos (text : List ℕ) : List IoNote → Type 0 where
  none : SpellIos text []
  more : {n : IoNote} {ns : List IoNote} → Spells text n.name_at n.io.name → SpellIos text ns → SpellIos text (n ∷ ns)

pub data SpellCells (text : List ℕ) : List CellNote → Type 0 where
  none : SpellCells text []
  more : {n : CellNote} {ns : List CellNote} → Spells text n.name_at n.cell.name → SpellCells text ns → SpellCells text (n ∷ ns)

-- where an operand is read, plus one; 0 for none
abbrev pub operand_word : Operand → ℕ
operand_word o = pick o.given (o.at + 1) 0

-- a map from author's numbers to rows: a word for each number, the row plus one or 0
pub record Maps (numbers map : List ℕ) : Type 0 where
  pub long : length map ≡ 65536
  pub is : (i : ℕ) → i < 65536 → get_or map i 0 ≡ row_of numbers i
