-- What a declaration of good form brings: strings and constants that the text has, indices within their range, operands as wide as
-- their parts.
use Rattle.std.specs.Prelude.{◌≡◌, ℕ, ◌+◌, ◌<◌, ◌≤◌, Bool, true, List, leb, length}
use Rattle.kinds.specs.Kinds.{kind_at}
use Rattle.signs.specs.Pieces.{decoded}
use Rattle.brackets.specs.Parts.{parts_at, members_at}
use Rattle.brackets.proofs.Sums.{widths}
use Rattle.brackets.specs.declared.Str.{Str}
use Rattle.brackets.specs.declared.Ref.{Ref}
use Rattle.brackets.specs.declared.Operand.{Operand}
use Rattle.form.specs.declared.Label.{Label}
use Rattle.form.specs.declared.Label.TheVariants as label
use Rattle.form.specs.declared.Payload.{Payload}
use Rattle.form.specs.declared.Payload.TheVariants as payload
use Rattle.form.specs.declared.Wiring.{Wiring}
use Rattle.form.specs.declared.Decl.{Decl}
use Rattle.form.specs.declared.Decl.TheVariants as decl
use Rattle.form.specs.declared.Declared.{Declared}

-- a string that means as many bytes as told
pub record StrIn (text : List ℕ) (s : Str) : Type 0 where
  pub size : s.size ≡ length (decoded text s.from)

-- a constant that lies inside the text
pub record ConstantIn (text : List ℕ) (s : Str) : Type 0 where
  pub inside : s.from + s.size ≤ length text

pub record RefIn (r : Ref) : Type 0 where
  pub small : r.index < 65536

pub record NothingMore : Type 0 where

abbrev pub LabelIn : List ℕ → Label → Type 0
LabelIn text (label.Named s) = StrIn text s
LabelIn text (label.Indexed n) = NothingMore

abbrev pub PayloadIn : List ℕ → Payload → Type 0
PayloadIn text (payload.Bits s) = ConstantIn text s
PayloadIn text (payload.Integer n) = NothingMore
PayloadIn text (payload.Text s) = StrIn text s

-- an operand of the keyword, or none, as wide as its parts
pub record OperandIn (text : List ℕ) (has : Bool) (o : Operand) : Type 0 where
  pub given : o.given ≡ has
  pub width : o.width ≡ widths (parts_at text o)

pub record WiringIn (text : List ℕ) (w : Wiring) : Type 0 where
  pub name : (kind_at w.kind).named ≡ true → StrIn text w.name
  pub a : OperandIn text (leb 1 (kind_at w.kind).operands) w.a
  pub b : OperandIn text (leb 2 (kind_at w.kind).operands) w.b
  pub c : OperandIn text (leb 3 (kind_at w.kind).operands) w.c
  pub meta : RefIn w.meta

abbrev pub DeclIn : List ℕ → Decl → Type 0
DeclIn text (decl.Set m) = m.count ≡ length (members_at text m.at)
DeclIn text (decl.Source f r) = StrIn text f
DeclIn text (decl.Scope l i s) = LabelIn text l × RefIn i × RefIn s
DeclIn text (decl.Ident n i) = StrIn text n × RefIn i
DeclIn text (decl.Attr n p) = StrIn text n × PayloadIn text p
DeclIn text (decl.Io n w) = StrIn text n
DeclIn text (decl.Cell w) = WiringIn text w

pub record Formed (text : List ℕ) (d : Declared) : Type 0 where
  pub index : d.index < 65536
  pub decl : DeclIn text d.decl
