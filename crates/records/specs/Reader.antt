-- The record reader. Document 01, Load list: "A thin record reader over the lent load list serves the bench listing."
use Rattle.std.specs.Prelude.{ℕ, zero, suc, ◌+◌, ◌*◌, Bool, true, false, List, [], ◌∷◌, ltb, drop}
use Rattle.std.specs.Borrow.{Bor}
use Rattle.ground.specs.Choice.{pick}
use Rattle.loadlist.specs.Records.{record_in}
use Rattle.loadlist.specs.Check.{record_count}
use Rattle.loadlist.specs.declared.Record.{Record}
use Rattle.records.specs.declared.Records.{Records}

-- "A part of a record is a bad one": it counts as a record
abbrev pub is_left_at : List ℕ → ℕ → Bool
is_left_at list number = ltb number (record_count list)

abbrev pub number_after : List ℕ → ℕ → ℕ
number_after list number = pick (is_left_at list number) (number + 1) number

-- "operation, 0, first and second field", at "8 bytes" a record
abbrev pub record_at : List ℕ → ℕ → Record
record_at list number = record_in (drop (8 * number) list)

-- THE READER: at the first record, whether one is left, its record, at the next
abbrev pub at_first : Bor (List ℕ) → Records
at_first list = record { list = list; number = 0 }

abbrev pub is_left : Records → Bool
is_left reader = is_left_at reader.list.now reader.number

abbrev pub record_of : Records → Record
record_of reader = record_at reader.list.now reader.number

abbrev pub moved : Records → Records
moved reader = record { list = reader.list; number = number_after reader.list.now reader.number }

-- what a reader gives, n records at most
unfoldable pub read_from : ℕ → Records → List Record
read_from zero reader = []
read_from (suc n) reader = elim (is_left reader) [ true ↦ record_of reader ∷ read_from n (moved reader) | false ↦ [] ]
