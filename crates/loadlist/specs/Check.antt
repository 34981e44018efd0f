-- The check of a load list. 22: "load list malformed", at the first bad record. Document 01, Load list: "A part of a record is a bad
-- one; a record's place is its first byte."
use Rattle.std.specs.Prelude.{ℕ, zero, suc, ◌+◌, ◌*◌, ◌/◌, Bool, true, false, ◌&&◌, List, leb, ltb, eqb, length, get_or, take, drop, Result, Ok, Err}
use Rattle.std.proofs.Math.Option.{Option, none, some}
use Rattle.ground.specs.Choice.{pick}
use Rattle.ground.specs.Lists.{total}
use Rattle.loadlist.specs.Records.{record_in, records_in, input_op, not_op, output_op}
use Rattle.loadlist.specs.declared.Record.{Record}

-- "mark 47 53, operation, 0"
abbrev pub marked : List ℕ → Bool
marked s = eqb (get_or s 0 0) 0x47 && (eqb (get_or s 1 0) 0x53 && eqb (get_or s 3 0) 0)

abbrev pub is_whole : List ℕ → Bool
is_whole s = eqb (length (take 8 s)) 8

-- "Unused fields are 0. Slots named are earlier ones; inputs are numbered 0, 1, .. in order, outputs too". Record k, with so many
-- input and output records before it.
abbrev pub first_fits : Record → ℕ → ℕ → Bool
first_fits r k inputs = pick (ltb r.op input_op) (eqb r.first 0) (pick (eqb r.op input_op) (eqb r.first inputs) (ltb r.first k))

abbrev pub second_fits : Record → ℕ → ℕ → Bool
second_fits r k outputs = pick (leb r.op not_op) (eqb r.second 0) (pick (eqb r.op output_op) (eqb r.second outputs) (ltb r.second k))

abbrev pub fits : Record → ℕ → ℕ → ℕ → Bool
fits r k inputs outputs = leb r.op 8 && (first_fits r k inputs && second_fits r k outputs)

-- "at most 8,192 records"
unfoldable pub good_record : List ℕ → ℕ → ℕ → ℕ → Bool
good_record s k inputs outputs =
    ltb k 8192 && (is_whole s && (marked s && fits (record_in s) k inputs outputs))

-- one more where the record has the operation
abbrev pub counted : ℕ → Record → ℕ → ℕ
counted op r n = n + pick (eqb r.op op) 1 0

-- the place of the first bad record among the next n, from record k on
unfoldable pub bad_record_from : ℕ → List ℕ → ℕ → ℕ → ℕ → Option ℕ
bad_record_from zero s k inputs outputs = none
bad_record_from (suc n) s k inputs outputs = elim (good_record s k inputs outputs) [
  | true ↦ bad_record_from n (drop 8 s) (k + 1) (counted input_op (record_in s) inputs) (counted output_op (record_in s) outputs)
  | false ↦ some (8 * k)
]

-- records, a part of one counted
abbrev pub record_count : List ℕ → ℕ
record_count s = (length s + 7) / 8

unfoldable pub bad_record : List ℕ → Option ℕ
bad_record s = bad_record_from (record_count s) s 0 0 0

abbrev pub records : List ℕ → List Record
records s = records_in (record_count s) s

abbrev pub records_with : ℕ → List Record → ℕ
records_with op rs = total (λ r. pick (eqb r.op op) 1 0) rs

-- THE CHECK: the first bad record, or the numbers of input and output records
abbrev pub listed_from : List ℕ → Option ℕ → Result (ℕ × ℕ) ℕ
listed_from s (some k) = Err k
listed_from s none = Ok (records_with input_op (records s), records_with output_op (records s))

unfoldable pub listed_of : List ℕ → Result (ℕ × ℕ) ℕ
listed_of s = listed_from s (bad_record s)
