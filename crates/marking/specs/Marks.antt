-- Marks of names: names of one kind that are the same have the same mark, so a name whose mark is new is none of those before.
use Rattle.std.specs.Prelude.{◌≡◌, false, List, [], ◌∷◌, ℕ, ◌+◌, ◌*◌, ◌%◌, ◌/◌, length, get_or}
use Rattle.netlist.specs.Rules.{taken}

-- a mark begins with the kind of what is named, so that names of different kinds seldom meet
abbrev pub mark_kind : ℕ → ℕ
mark_kind kind = kind * 2862933555 % 4294967296

abbrev pub mark_more : ℕ → ℕ → ℕ
mark_more mark b = (mark + b) * 2862933555 % 4294967296

unfoldable pub mark_from : ℕ → List ℕ → ℕ
mark_from mark [] = mark
mark_from mark (b ∷ name) = mark_from (mark_more mark b) name

unfoldable pub mark_of : ℕ → List ℕ → ℕ
mark_of kind name = mark_from (mark_kind kind) name

-- where a map of 65,536 bytes has a mark: by its upper half, on which every byte of the name tells
abbrev pub place_of : ℕ → ℕ
place_of mark = mark / 65536

-- every one of the names, which are of the kind, has left its mark in the map
pub record Marked (kind : ℕ) (seen : List ℕ) (names : List (List ℕ)) : Type 0 where
  pub size : length seen ≡ 65536
  pub free : (name : List ℕ) → get_or seen (place_of (mark_of kind name)) 0 ≡ 0 → taken name names ≡ false
