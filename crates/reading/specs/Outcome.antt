-- All that a caller sees after a read: the answer, and every word and byte lent.
use Rattle.ground.specs.declared.Refusal.{Refusal}
use Rattle.std.specs.Prelude.{ℕ, ◌||◌, List, ◌++◌, ltb, length, drop, Result, Ok, Err}
use Rattle.ground.specs.Choice.{pick}
use Rattle.ground.specs.Refusals.{at, refusal}
use Rattle.ground.specs.Regions.{zeros, over}
use Rattle.netlist.specs.Tables.{layout, rows_of, bits_of, rows_length, strings_length, bits_length}
use Rattle.netlist.specs.Good.{short}
use Rattle.declaring.specs.Reading.{Reading, says, refused, reading}

-- the work space, in words
abbrev pub work_length : ℕ
work_length = 132608

pub record Outcome : Type 0 where
  pub answer : Result (Unit {0}) Refusal
  pub rows : List ℕ
  pub strings : List ℕ
  pub bits : List ℕ
  pub work : List ℕ

abbrev pub made : Result (Unit {0}) Refusal → List ℕ → List ℕ → List ℕ → List ℕ → Outcome
made answer rows strings bits work = record { answer = answer; rows = rows; strings = strings; bits = bits; work = work }

abbrev cleared : ℕ → List ℕ → List ℕ
cleared n old = over n (zeros n) old

-- "A refused read other than 1 leaves all tables zero .. Work space is zero after every call but one refused 1"
abbrev pub left : List ℕ → List ℕ → List ℕ → List ℕ → Reading → Outcome
left rows strings bits work (says N) =
    made (Ok tt) (over rows_length (rows_of (layout N)) rows) (over strings_length (layout N).strings strings)
    (over bits_length (bits_of (layout N)) bits) (cleared work_length work)
left rows strings bits work (refused g) =
    made (Err g) (cleared rows_length rows) (cleared strings_length strings) (cleared bits_length bits) (cleared work_length work)

-- the same of slices that have just the fixed lengths
abbrev pub filled : Reading → Outcome
filled (says N) = made (Ok tt) (rows_of (layout N)) (layout N).strings (bits_of (layout N)) (zeros work_length)
filled (refused g) = made (Err g) (zeros rows_length) (zeros strings_length) (zeros bits_length) (zeros work_length)

-- of longer slices only the fixed length counts: what stood behind it stands there still
abbrev pub behind_rows : List ℕ → Outcome → Outcome
behind_rows old o = made o.answer (o.rows ++ drop rows_length old) o.strings o.bits o.work

abbrev pub behind_strings : List ℕ → Outcome → Outcome
behind_strings old o = made o.answer o.rows (o.strings ++ drop strings_length old) o.bits o.work

abbrev pub behind_bits : List ℕ → Outcome → Outcome
behind_bits old o = made o.answer o.rows o.strings (o.bits ++ drop bits_length old) o.work

abbrev pub behind_work : List ℕ → Outcome → Outcome
behind_work old o = made o.answer o.rows o.strings o.bits (o.work ++ drop work_length old)

-- THE OUTCOME OF READING
unfoldable pub read_of : List ℕ → List ℕ → List ℕ → List ℕ → List ℕ → Outcome
read_of text rows strings bits work =
    pick (short rows strings bits || ltb (length work) work_length) (made (Err (refusal 1 (at 0))) rows strings bits work)
    (left rows strings bits work (reading text))
