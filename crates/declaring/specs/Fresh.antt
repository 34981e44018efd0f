-- Names while declarations are noted: those that were said have left their marks, so one whose mark is new is fresh.
use Rattle.std.specs.Prelude.{◌≡◌, Bool, true, false, List, ℕ, eqb, get_or, set}
use Rattle.kinds.specs.Kinds.{kind_at}
use Rattle.brackets.specs.declared.Str.{Str}
use Rattle.form.specs.declared.Wiring.{Wiring}
use Rattle.form.specs.declared.Decl.{Decl}
use Rattle.form.specs.declared.Decl.TheVariants as decl
use Rattle.form.specs.declared.Declared.{Declared}
use Rattle.netlist.specs.Rules.{taken, io_names, names_as}
use Rattle.marking.specs.Marks.{mark_of, place_of, Marked}
use Rattle.saying.specs.Values.{string_in}
use Rattle.saying.specs.Rules.{Sofar, said_by, added}
use Rattle.asking.specs.Namesakes.{FreshIo, FreshCell}
use Rattle.noting.specs.Noted.{ios_in, cells_in}
use Rattle.noting.specs.declared.Tally.{Tally}

-- the names said so far, by their marks: those of I/O are marked as of the kind 255, which no cell has
pub record NamesMarked (seen : List ℕ) (so : Sofar) : Type 0 where
  pub ios : Marked 255 seen (io_names so.netlist.ios)
  pub cells : (kind : ℕ) → (kind_at kind).named ≡ true → Marked kind seen (names_as kind so.netlist.cells)

-- whether the name of a kind is new to the map, and the map with its mark
pub record MarksName (text : List ℕ) (kind : ℕ) (name : Str) (seen : List ℕ) (fresh : Bool) (seen' : List ℕ) : Type 0 where
  pub new : fresh ≡ eqb (get_or seen (place_of (mark_of kind (string_in text name))) 0) 0
  pub left : seen' ≡ set seen (place_of (mark_of kind (string_in text name))) 1

-- of a cell's name, where its kind has one
pub record MarksCell (text : List ℕ) (w : Wiring) (seen : List ℕ) (fresh : Bool) (seen' : List ℕ) : Type 0 where
  pub named : (kind_at w.kind).named ≡ true → MarksName text w.kind w.name seen fresh seen'
  pub nameless : (kind_at w.kind).named ≡ false → (fresh ≡ false) × (seen' ≡ seen)

-- a name that is called fresh is none of those said
pub record FreshName (text : List ℕ) (so : Sofar) (d : Decl) (fresh : Bool) : Type 0 where
  pub io : fresh ≡ true → (name : Str) (width : ℕ) → d ≡ decl.Io name width → taken (string_in text name) (io_names so.netlist.ios) ≡ false
  pub cell : fresh ≡ true → (w : Wiring) → d ≡ decl.Cell w → ((kind_at w.kind).named ≡ true) × (taken (string_in text w.name) (names_as w.kind so.netlist.cells) ≡ false)

-- what the marks tell of a declaration, and how they go on with it
pub record Freshens (text : List ℕ) (d : Declared) (seen : List ℕ) (fresh : Bool) (seen' : List ℕ) : Type 0 where
  pub after : (so : Sofar) → NamesMarked seen so → FreshName text so d.decl fresh × NamesMarked seen' (added so d.index (said_by text so d.decl))

-- .. by the tables
pub record FreshDecl (text rows : List ℕ) (n : Tally) (d : Decl) (fresh : Bool) : Type 0 where
  pub io : (name : Str) (width : ℕ) → d ≡ decl.Io name width → FreshIo text (ios_in rows) n.ios name.from name.size fresh
  pub cell : (w : Wiring) → d ≡ decl.Cell w → FreshCell text (cells_in rows) n.cells w.kind w.name.from w.name.size fresh
