-- Operands and sets: their parts, their measure, and the parts again one by one.
use Rattle.lexis.specs.Took.{Took, after}
use Rattle.std.specs.Prelude.{◌≡◌, ℕ, zero, suc, ◌+◌, ◌*◌, ◌≤◌, Bool, true, false, ◌||◌, List, [], ◌∷◌, leb, length, Ok, Err}
use Rattle.ground.specs.Choice.{pick}
use Rattle.ground.specs.Refusals.{at, refusal}
use Rattle.lexis.specs.Tokens.{token_at, inside_at, constant, cell, meta, placeholder}
use Rattle.ground.specs.declared.Place.{Place}
use Rattle.lexis.specs.declared.Reader.{Reader}
use Rattle.lexis.specs.declared.Token.{Token}
use Rattle.brackets.specs.Words.{is_sort, is_mark}
use Rattle.brackets.specs.declared.Str.{Str}
use Rattle.brackets.specs.declared.Ref.{Ref}
use Rattle.brackets.specs.declared.Operand.{Operand}
use Rattle.brackets.specs.declared.Base.{Base}
use Rattle.brackets.specs.declared.Base.TheVariants.{Constant, Cell}
use Rattle.brackets.specs.declared.Part.{Part}
use Rattle.brackets.specs.declared.Part.TheVariants.{One, Repeated}
use Rattle.brackets.specs.declared.Parted.{Parted}
use Rattle.brackets.specs.declared.Parted.TheVariants as parted
use Rattle.brackets.specs.declared.Membered.{Membered}
use Rattle.brackets.specs.declared.Membered.TheVariants as membered

-- Document 01, Text: "Each operand part is a constant, a cell piece or a repetition of either"
abbrev pub is_part : Token → Bool
is_part t = is_sort constant t || is_sort cell t

abbrev pub str : Token → Str
str t = record { from = t.from; size = t.size }

abbrev pub base_of : Token → Base
base_of t = pick (is_sort constant t) (Constant (str t)) (Cell (record { cell = t.value; offset = t.offset; width = t.width }))

-- a part with `*` is a repetition
abbrev pub part_of : Token → Part
part_of t = pick (leb 4 t.parts) (Repeated (base_of t) t.count) (One (base_of t))

abbrev pub base_width : Base → ℕ
base_width (Constant s) = s.size
base_width (Cell p) = p.width

abbrev pub part_width : Part → ℕ
part_width (One b) = base_width b
part_width (Repeated b n) = n * base_width b

-- no part of a text of 65,536 bytes is wider than this
abbrev pub widest : ℕ
widest = 4294967296

-- a token that is no wider than that, where it is a part
pub record Narrow (t : Token) : Type 0 where
  pub width : is_part t ≡ true → part_width (part_of t) ≤ widest

-- 8 for "a placeholder" where a cell identifier may stand, else 7 for "token not allowed there"
abbrev pub refused_part : Token → ℕ
refused_part t = pick (is_sort placeholder t) 8 7

abbrev pub parted_of : Took Token → Took Parted
parted_of (Err g) = Err g
parted_of (Ok (t, r)) = pick (is_part t) (Ok (parted.Took (part_of t) t.place, r)) (Ok (parted.Other t, r))

-- what stands next between the brackets of an operand
unfoldable pub next_part : List ℕ → ℕ → Took Parted
next_part text k = parted_of (inside_at text k)

-- the token behind the last part of a concatenation of the width n
abbrev pub concat_end : ℕ → Token → Reader → Took ℕ
concat_end n t r = pick (is_mark 93 t) (Ok (n, r)) (Err (refusal (refused_part t) t.place))

-- 001, Concatenations: parts up to `]`; n is the width so far. Document 01, Text: "Concatenations don't nest."
unfoldable pub concat_from : ℕ → List ℕ → ℕ → ℕ → Took ℕ
concat_from zero text n k = Err (refusal 7 (at k))
concat_from (suc f) text n k = elim (next_part text k) [
  | Err g ↦ Err g
  | Ok (parted.Took p place, r) ↦ concat_from f text (n + part_width p) r.next.at
  | Ok (parted.Other t, r) ↦ concat_end n t r
]

-- each part takes a byte at least
abbrev pub concat_at : List ℕ → ℕ → Took ℕ
concat_at text k = concat_from (suc (length text)) text 0 k

abbrev pub operand : ℕ → ℕ → Operand
operand k n = record { given = true; at = k; width = n }

abbrev pub no_operand : Operand
no_operand = record { given = false; at = 0; width = 0 }

abbrev pub closed_operand : ℕ → Took ℕ → Took Operand
closed_operand k s = after s (λ n k'. Ok (operand k n, record { next = at k' }))

abbrev pub operand_from : List ℕ → ℕ → Took Token → Took Operand
operand_from text k s = after s (λ t k'.
    pick (is_part t) (Ok (operand k (part_width (part_of t)), record { next = at k' }))
    (pick (is_mark 91 t) (closed_operand k (concat_at text k'))
    (Err (refusal (refused_part t) t.place))))

-- 001, Value references: a part, or a concatenation
unfoldable pub operand_at : List ℕ → ℕ → Took Operand
operand_at text k = operand_from text k (token_at text k)

-- THE PARTS OF AN OPERAND of good form, the most significant first, each with its place
pub record PartAt : Type 0 where
  pub part : Part
  pub place : Place

unfoldable pub parts_from : ℕ → List ℕ → ℕ → List PartAt
parts_from zero text k = []
parts_from (suc f) text k = elim (next_part text k) [
  | Err g ↦ []
  | Ok (parted.Took p place, r) ↦ record { part = p; place = place } ∷ parts_from f text r.next.at
  | Ok (parted.Other t, r) ↦ []
]

abbrev pub parts_of : List ℕ → Took Token → List PartAt
parts_of text (Err g) = []
parts_of text (Ok (t, r)) =
    pick (is_part t) (record { part = part_of t; place = t.place } ∷ [])
    (parts_from (suc (length text)) text r.next.at)

unfoldable pub parts_at : List ℕ → Operand → List PartAt
parts_at text o = pick o.given (parts_of text (token_at text o.at)) []

-- REFERENCES
abbrev pub ref : Token → Ref
ref t = record { given = true; index = t.value; place = t.place }

abbrev pub no_ref : Ref
no_ref = record { given = false; index = 0; place = at 0 }

abbrev pub membered_of : Took Token → Took Membered
membered_of (Err g) = Err g
membered_of (Ok (t, r)) = pick (is_sort meta t) (Ok (membered.Took (ref t), r)) (Ok (membered.Other t, r))

-- what stands next between the brackets of a set
unfoldable pub next_member : List ℕ → ℕ → Took Membered
next_member text k = membered_of (inside_at text k)

-- the token behind the last of n members
abbrev pub set_end : ℕ → Token → Reader → Took ℕ
set_end n t r = pick (is_mark 125 t) (Ok (n, r)) (Err (refusal 7 t.place))

-- 001, Metadata sets: references up to `}`; n of them so far
unfoldable pub set_from : ℕ → List ℕ → ℕ → ℕ → Took ℕ
set_from zero text n k = Err (refusal 7 (at k))
set_from (suc f) text n k = elim (next_member text k) [
  | Err g ↦ Err g
  | Ok (membered.Took m, r) ↦ set_from f text (n + 1) r.next.at
  | Ok (membered.Other t, r) ↦ set_end n t r
]

abbrev pub set_at : List ℕ → ℕ → Took ℕ
set_at text k = set_from (suc (length text)) text 0 k

-- THE MEMBERS OF A SET of good form
unfoldable pub members_from : ℕ → List ℕ → ℕ → List Ref
members_from zero text k = []
members_from (suc f) text k = elim (next_member text k) [
  | Err g ↦ []
  | Ok (membered.Took m, r) ↦ m ∷ members_from f text r.next.at
  | Ok (membered.Other t, r) ↦ []
]

abbrev pub members_at : List ℕ → ℕ → List Ref
members_at text k = members_from (suc (length text)) text k
