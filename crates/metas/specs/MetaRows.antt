-- What a declaration of metadata says, and the row that notes it, all told by value.
use Rattle.std.specs.Prelude.{◌≡◌, ℕ, ◌+◌, ◌*◌, ◌<◌, ◌≤◌, Bool, true, false, not, ◌||◌, List, [], ◌∷◌, ◌++◌, map, eqb, leb, length, take, drop, set, Option, Some, None}
use Rattle.std.proofs.Math.Option.{Option as Found, none, some}
use Rattle.std.proofs.lemmas.List.Edits.{sets}
use Rattle.ground.specs.Choice.{pick}
use Rattle.ground.specs.Lists.{all_of}
use Rattle.ground.specs.Regions.{part}
use Rattle.ground.specs.Refusals.{refusal}
use Rattle.ground.specs.declared.Place.{Place}
use Rattle.ground.specs.declared.Refusal.{Refusal}
use Rattle.kinds.specs.Kinds.{wide}
use Rattle.brackets.specs.Parts.{members_at}
use Rattle.brackets.specs.declared.Str.{Str}
use Rattle.brackets.specs.declared.Ref.{Ref}
use Rattle.form.specs.declared.Range.{Range}
use Rattle.form.specs.declared.Label.{Label}
use Rattle.form.specs.declared.Label.TheVariants as label
use Rattle.form.specs.declared.Payload.{Payload}
use Rattle.form.specs.declared.Payload.TheVariants as payload
use Rattle.form.specs.declared.Decl.{Decl}
use Rattle.form.specs.declared.Decl.TheVariants as decl
use Rattle.form.specs.declared.Declared.{Declared}
use Rattle.netlist.specs.Netlist.{Meta, Netlist, set_meta, source_meta, scope_meta, indexed_meta, ident_meta, bits_meta, integer_meta, string_meta, is_scope}
use Rattle.netlist.specs.Rules.{has_name, bad_range, complete, attr_width, roomy, is_member, is_source}
use Rattle.saying.specs.Values.{ref_row, string_in, trits_in, meta, source_of, scope_of, attr_of}
use Rattle.saying.specs.Notes.{MetaNote, meta_note, Spells, Maps}
use Rattle.asking.specs.References.{misnamed, first_misnamed}
use Rattle.noting.specs.Rulings.{meta_more}
use Rattle.noting.specs.declared.Tally.{Tally}
use Rattle.metas.specs.declared.Spot.{Spot}
use Rattle.metas.specs.declared.MetaRow.{MetaRow}

abbrev pub is_metadata : Decl → Bool
is_metadata (decl.Set m) = true
is_metadata (decl.Source f r) = true
is_metadata (decl.Scope l i s) = true
is_metadata (decl.Ident n i) = true
is_metadata (decl.Attr n p) = true
is_metadata (decl.Io n w) = false
is_metadata (decl.Cell w) = false

-- WHAT IT SAYS, the author's metadata numbers given by row
abbrev pub meta_said : List ℕ → List ℕ → Decl → Meta
meta_said text ns (decl.Set m) = meta set_meta [] [] (map (ref_row ns) (members_at text m.at)) [] 0 0 0
meta_said text ns (decl.Source f r) = source_of (string_in text f) r
meta_said text ns (decl.Scope l i s) = scope_of text l (ref_row ns i) (ref_row ns s)
meta_said text ns (decl.Ident n i) = meta ident_meta (string_in text n) [] [] [] (ref_row ns i) 0 0
meta_said text ns (decl.Attr n p) = attr_of text (string_in text n) p
meta_said text ns (decl.Io n w) = meta 0 [] [] [] [] 0 0 0
meta_said text ns (decl.Cell w) = meta 0 [] [] [] [] 0 0 0

-- THE ROW
abbrev pub spot_of : Str → Spot
spot_of s = record { at = pick (eqb s.size 0) 0 s.from; size = s.size }

abbrev pub no_spot : Spot
no_spot = record { at = 0; size = 0 }

abbrev pub no_range : Range
no_range = record { first = record { line = 0; column = 0 }; last = record { line = 0; column = 0 } }

abbrev pub meta_row : ℕ → Spot → Spot → ℕ → ℕ → ℕ → ℕ → ℕ → Range → MetaRow
meta_row kind name text members trits inside source number range =
    record { kind = kind; name = name; text = text; members = members; trits = trits; inside = inside; source = source; number = number; range = range }

abbrev pub scope_row : Label → ℕ → ℕ → MetaRow
scope_row (label.Named s) inside source = meta_row scope_meta (spot_of s) no_spot 0 0 inside source 0 no_range
scope_row (label.Indexed n) inside source = meta_row indexed_meta no_spot no_spot 0 0 inside source n no_range

abbrev pub attr_row : Str → Payload → MetaRow
attr_row name (payload.Bits s) = meta_row bits_meta (spot_of name) no_spot 0 s.size 0 0 0 no_range
attr_row name (payload.Integer n) = meta_row integer_meta (spot_of name) no_spot 0 0 0 0 n no_range
attr_row name (payload.Text s) = meta_row string_meta (spot_of name) (spot_of s) 0 0 0 0 0 no_range

abbrev pub row_for : List ℕ → Decl → MetaRow
row_for ns (decl.Set m) = meta_row set_meta no_spot no_spot m.count 0 0 0 0 no_range
row_for ns (decl.Source f r) = meta_row source_meta (spot_of f) no_spot 0 0 0 0 0 r
row_for ns (decl.Scope l i s) = scope_row l (ref_row ns i) (ref_row ns s)
row_for ns (decl.Ident n i) = meta_row ident_meta (spot_of n) no_spot 0 0 (ref_row ns i) 0 0 no_range
row_for ns (decl.Attr n p) = attr_row n p
row_for ns (decl.Io n w) = meta_row 0 no_spot no_spot 0 0 0 0 0 no_range
row_for ns (decl.Cell w) = meta_row 0 no_spot no_spot 0 0 0 0 0 no_range

-- its words, as they are noted: starts follow later
abbrev pub meta_words : MetaRow → List ℕ
meta_words r =
    r.kind ∷ r.name.at ∷ r.name.size ∷ r.text.at ∷ r.text.size ∷ 0 ∷ r.members
    ∷ 0 ∷ r.trits ∷ r.inside ∷ r.source ∷ r.number
    ∷ r.range.first.line ∷ r.range.first.column ∷ r.range.last.line ∷ r.range.last.column ∷ []

-- a row that notes this metadata
pub record RowSays (text : List ℕ) (r : MetaRow) (m : Meta) : Type 0 where
  pub words : meta_words r ≡ meta_note (record { meta = m; name_at = r.name.at; text_at = r.text.at })
  pub kind : r.kind ≡ m.kind
  pub name : r.name.size ≡ length m.name
  pub second : r.text.size ≡ length m.text
  pub members : r.members ≡ length m.members
  pub trits : r.trits ≡ length m.bits
  pub line : r.range.first.line ≡ m.line
  pub column : r.range.first.column ≡ m.column
  pub end_line : r.range.last.line ≡ m.end_line
  pub end_column : r.range.last.column ≡ m.end_column
  pub name_there : Spells text r.name.at m.name
  pub text_there : Spells text r.text.at m.text

-- RULES 11 AND 12, asked of the row
abbrev pub named_rightly : ℕ → ℕ → Bool
named_rightly kind size = not (has_name kind) || not (eqb size 0)

abbrev pub enough_members : ℕ → ℕ → Bool
enough_members kind members = not (eqb kind set_meta) || leb 2 members

abbrev pub range_right : Range → Bool
range_right r = not (bad_range r.first.line r.first.column r.last.line r.last.column)

abbrev pub row_complete : MetaRow → Bool
row_complete r = all_of (named_rightly r.kind r.name.size ∷ range_right r.range ∷ enough_members r.kind r.members ∷ [])

abbrev pub trits_fit : ℕ → ℕ → Bool
trits_fit kind trits = not (eqb kind bits_meta) || wide trits

-- RULES 11 TO 13
abbrev pub meta_limits : Netlist → Meta → Place → Found Refusal
meta_limits N m place =
    pick (not (complete m)) (some (refusal 11 place))
    (pick (not (attr_width m)) (some (refusal 12 place))
    (pick (not (roomy (meta_more N m))) (some (refusal 13 place))
    none))

-- the members that a set brings, and the trits that an attribute brings
abbrev pub members_said : List ℕ → List ℕ → Decl → List ℕ
members_said text ns (decl.Set m) = map (ref_row ns) (members_at text m.at)
members_said text ns (decl.Source f r) = []
members_said text ns (decl.Scope l i s) = []
members_said text ns (decl.Ident n i) = []
members_said text ns (decl.Attr n p) = []
members_said text ns (decl.Io n w) = []
members_said text ns (decl.Cell w) = []

abbrev pub payload_trits : List ℕ → Payload → List ℕ
payload_trits text (payload.Bits s) = trits_in text s
payload_trits text (payload.Integer n) = []
payload_trits text (payload.Text s) = []

abbrev pub trits_said : List ℕ → Decl → List ℕ
trits_said text (decl.Set m) = []
trits_said text (decl.Source f r) = []
trits_said text (decl.Scope l i s) = []
trits_said text (decl.Ident n i) = []
trits_said text (decl.Attr n p) = payload_trits text p
trits_said text (decl.Io n w) = []
trits_said text (decl.Cell w) = []

-- RULE 10: the first reference that names nothing it may, the kinds of the noted rows and the author's numbers given
abbrev pub misnaming_for : List ℕ → List ℕ → List ℕ → Decl → Option Place
misnaming_for text kinds numbers (decl.Set m) = first_misnamed (misnamed is_member kinds numbers) (members_at text m.at)
misnaming_for text kinds numbers (decl.Source f r) = None
misnaming_for text kinds numbers (decl.Scope l i s) =
    pick (misnamed is_scope kinds numbers i) (Some i.place)
    (pick (misnamed is_source kinds numbers s) (Some s.place) None)
misnaming_for text kinds numbers (decl.Ident n i) = pick (misnamed is_scope kinds numbers i) (Some i.place) None
misnaming_for text kinds numbers (decl.Attr n p) = None
misnaming_for text kinds numbers (decl.Io n w) = None
misnaming_for text kinds numbers (decl.Cell w) = None

abbrev pub place_of : Option Place → Found Place
place_of (Some p) = some p
place_of None = none

-- n words of a slice from a on, written over
abbrev pub wrote : ℕ → ℕ → List ℕ → List ℕ → List ℕ
wrote a n l new = take a l ++ (new ++ drop n (drop a l))

-- the tally with the row counted
abbrev pub meta_tally : Tally → MetaRow → Tally
meta_tally n r = record {
  metas = n.metas + 1;
  ios = n.ios;
  cells = n.cells;
  members = n.members + r.members;
  trits = n.trits + r.trits;
  runs = n.runs;
  known = n.known;
  declared = n.declared;
  outputs = n.outputs;
  strings = n.strings + r.name.size + r.text.size;
  bare = n.bare;
}

-- room for a row more
pub record MetaRoom (r : MetaRow) (n : Tally) : Type 0 where
  pub room : n.metas < 512
  pub name : r.name.size ≤ 255
  pub text : r.text.size ≤ 255
  pub members : n.members + r.members ≤ 1024
  pub trits : r.trits ≤ 256
  pub strings : n.strings + r.name.size + r.text.size ≤ 16384

-- the rows of references
abbrev pub rows_of : List ℕ → List Ref → List ℕ
rows_of ns rs = map (ref_row ns) rs

-- the rows with the members and the row noted
abbrev pub rows_with : List ℕ → Tally → List ℕ → MetaRow → List ℕ
rows_with rows n members r =
    let a = wrote 8195 1024 rows (sets (part 8195 1024 rows) n.members members) in
    wrote 3 8192 a (sets (part 3 8192 a) (n.metas * 16) (meta_words r))

-- a row more in the tables
pub record MetaAdded (text : List ℕ) (d : Declared) (r : MetaRow) (n : Tally) (rows bits work rows' bits' work' : List ℕ) : Type 0 where
  pub in_rows : (ns : List ℕ) → Maps ns (part 65536 65536 work) → rows' ≡ rows_with rows n (members_said text ns d.decl) r
  pub in_bits : bits' ≡ wrote 0 131072 bits (sets (part 0 131072 bits) n.trits (trits_said text d.decl))
  pub in_work : work' ≡ wrote 65536 65536 work (set (part 65536 65536 work) d.index (n.metas + 1))

-- what a row more needs
pub record MetaAdds (text : List ℕ) (d : Declared) (r : MetaRow) (n : Tally) (rows bits work : List ℕ) : Type 0 where
  pub long_rows : length rows ≡ 26307
  pub long_bits : length bits ≡ 393728
  pub long_work : length work ≡ 132608
  pub room : MetaRoom r n
  pub members : (ns : List ℕ) → n.members + length (members_said text ns d.decl) ≤ 1024
  pub trits : n.trits + length (trits_said text d.decl) ≤ 131072
