-- What is asked of each declaration, after its form: rules 9 to 13 by number. `Sofar` is what the declarations before it say.
use Rattle.std.specs.Prelude.{ℕ, Bool, true, false, not, ◌&&◌, ◌||◌, List, [], ◌∷◌, ◌++◌, map, leb}
use Rattle.std.proofs.Math.Option.{Option, none, some}
use Rattle.ground.specs.Choice.{pick}
use Rattle.ground.specs.Refusals.{at, refusal}
use Rattle.ground.specs.declared.Place.{Place}
use Rattle.ground.specs.declared.Refusal.{Refusal}
use Rattle.kinds.specs.Kinds.{kind_at, wide}
use Rattle.brackets.specs.Parts.{members_at}
use Rattle.brackets.specs.declared.Ref.{Ref}
use Rattle.form.specs.declared.Wiring.{Wiring}
use Rattle.form.specs.declared.Decl.{Decl}
use Rattle.form.specs.declared.Decl.TheVariants as decl
use Rattle.form.specs.declared.Declared.{Declared}
use Rattle.netlist.specs.Netlist.{Meta, Io, Cell, Netlist, set_meta, ident_meta, is_scope}
use Rattle.netlist.specs.Rules.{taken, io_names, names_as, refers, is_member, is_source, any_kind, is_empty, complete, attr_width, cell_width, roomy}
use Rattle.saying.specs.Values.{row_of, ref_row, string_in, name_in, operand_runs, meta, source_of, scope_of, attr_of}
use Rattle.saying.specs.Pieces.{PieceAt, operand_pieces}

-- what the text says so far: the netlist with the author's numbers in its pieces, those numbers by row, and all pieces in text order
pub record Sofar : Type 0 where
  pub netlist : Netlist
  pub meta_numbers : List ℕ
  pub cell_numbers : List ℕ
  pub pieces : List PieceAt

abbrev pub nothing : Sofar
nothing = record { netlist = record { metas = []; ios = []; cells = [] }; meta_numbers = []; cell_numbers = []; pieces = [] }

-- WHAT A DECLARATION SAYS: metadata, an I/O row, or a cell with its operands' exact widths and the pieces as the text has them
pub data Said : Type 0 where
  metadata : Meta → Said
  pad : Io → Said
  cell : Cell → ℕ → ℕ → ℕ → List PieceAt → Said

abbrev pub cell_of : List ℕ → Sofar → Wiring → Cell
cell_of text so w = record {
  kind = w.kind;
  width = w.width;
  name = name_in text (kind_at w.kind).named w.name;
  meta = ref_row so.meta_numbers w.meta;
  a = operand_runs text w.a;
  b = operand_runs text w.b;
  c = operand_runs text w.c;
}

abbrev pub pieces_of : List ℕ → Wiring → List PieceAt
pieces_of text w = operand_pieces text w.a ++ (operand_pieces text w.b ++ operand_pieces text w.c)

unfoldable pub said_by : List ℕ → Sofar → Decl → Said
said_by text so (decl.Set m) = metadata (meta set_meta [] [] (map (ref_row so.meta_numbers) (members_at text m.at)) [] 0 0 0)
said_by text so (decl.Source f r) = metadata (source_of (string_in text f) r)
said_by text so (decl.Scope l i s) = metadata (scope_of text l (ref_row so.meta_numbers i) (ref_row so.meta_numbers s))
said_by text so (decl.Ident n i) = metadata (meta ident_meta (string_in text n) [] [] [] (ref_row so.meta_numbers i) 0 0)
said_by text so (decl.Attr n p) = metadata (attr_of text (string_in text n) p)
said_by text so (decl.Io n w) = pad (record { name = string_in text n; width = w })
said_by text so (decl.Cell w) = cell (cell_of text so w) w.a.width w.b.width w.c.width (pieces_of text w)

-- what is said with it
abbrev pub with_meta : Sofar → ℕ → Meta → Sofar
with_meta so index m = record {
  netlist = record { metas = so.netlist.metas ++ (m ∷ []); ios = so.netlist.ios; cells = so.netlist.cells };
  meta_numbers = so.meta_numbers ++ (index ∷ []);
  cell_numbers = so.cell_numbers;
  pieces = so.pieces;
}

abbrev pub with_io : Sofar → Io → Sofar
with_io so i = record {
  netlist = record { metas = so.netlist.metas; ios = so.netlist.ios ++ (i ∷ []); cells = so.netlist.cells };
  meta_numbers = so.meta_numbers;
  cell_numbers = so.cell_numbers;
  pieces = so.pieces;
}

abbrev pub with_cell : Sofar → ℕ → Cell → List PieceAt → Sofar
with_cell so index c ps = record {
  netlist = record { metas = so.netlist.metas; ios = so.netlist.ios; cells = so.netlist.cells ++ (c ∷ []) };
  meta_numbers = so.meta_numbers;
  cell_numbers = so.cell_numbers ++ (index ∷ []);
  pieces = so.pieces ++ ps;
}

unfoldable pub added : Sofar → ℕ → Said → Sofar
added so index (metadata m) = with_meta so index m
added so index (pad i) = with_io so i
added so index (cell c a b d ps) = with_cell so index c ps

-- RULE 9: "index or name declared twice"; `!` and `%` indices, I/O names, input names and output names are five name spaces
abbrev pub declares : List ℕ → ℕ → Bool
declares numbers index = leb 1 (row_of numbers index)

abbrev pub twice : Sofar → ℕ → Said → Bool
twice so index (metadata m) = declares so.meta_numbers index
twice so index (pad i) = taken i.name (io_names so.netlist.ios)
twice so index (cell c a b d ps) =
    declares so.cell_numbers index || ((kind_at c.kind).named && taken c.name (names_as c.kind so.netlist.cells))

-- RULE 10: "metadata reference missing, later or of the wrong kind", at the first such. What each reference may name:
pub record Asked : Type 0 where
  pub ref : Ref
  pub allowed : ℕ → Bool

abbrev asked : (ℕ → Bool) → Ref → Asked
asked p r = record { ref = r; allowed = p }

abbrev pub asked_of : List ℕ → Decl → List Asked
asked_of text (decl.Set m) = map (asked is_member) (members_at text m.at)
asked_of text (decl.Source f r) = []
asked_of text (decl.Scope l i s) = asked is_scope i ∷ asked is_source s ∷ []
asked_of text (decl.Ident n i) = asked is_scope i ∷ []
asked_of text (decl.Attr n p) = []
asked_of text (decl.Io n w) = []
asked_of text (decl.Cell w) = asked any_kind w.meta ∷ []

abbrev pub misnamed : Sofar → Asked → Bool
misnamed so q =
    q.ref.given && not (refers q.allowed (map (λ m. m.kind) so.netlist.metas) (row_of so.meta_numbers q.ref.index))

unfoldable pub first_misnamed : Sofar → List Asked → Option Place
first_misnamed so [] = none
first_misnamed so (q ∷ qs) = elim (misnamed so q) [ true ↦ some q.ref.place | false ↦ first_misnamed so qs ]

-- RULE 11: "empty name, bad range, short set"
abbrev pub incomplete : Said → Bool
incomplete (metadata m) = not (complete m)
incomplete (pad i) = is_empty i.name
incomplete (cell c a b d ps) = (kind_at c.kind).named && is_empty c.name

-- RULE 12: "width rule"
abbrev pub misfit : Said → Bool
misfit (metadata m) = not (attr_width m)
misfit (pad i) = not (wide i.width)
misfit (cell c a b d ps) = not (cell_width c.kind c.width a b d)

-- RULE 13: "a limit of Room passed"
abbrev pub cramped : Sofar → ℕ → Said → Bool
cramped so index s = not (roomy (added so index s).netlist)

-- Document 01, Refusal numbers: "then 9 to 13 by number"
abbrev pub ruled : Sofar → Declared → Said → Option Place → Option Refusal
ruled so d s (some p) = some (refusal 10 p)
ruled so d s none =
    pick (incomplete s) (some (refusal 11 d.place))
    (pick (misfit s) (some (refusal 12 d.place))
    (pick (cramped so d.index s) (some (refusal 13 d.place))
    none))

abbrev pub ruled_on : List ℕ → Sofar → Declared → Said → Option Refusal
ruled_on text so d s =
    pick (twice so d.index s) (some (refusal 9 d.place))
    (ruled so d s (first_misnamed so (asked_of text d.decl)))

unfoldable pub ruled_out : List ℕ → Sofar → Declared → Option Refusal
ruled_out text so d = ruled_on text so d (said_by text so d.decl)
