-- Records. Document 01, Load list: "Records of 8 bytes: mark 47 53, operation, 0, first and second field (16 bits, low byte first)."
use Rattle.std.specs.Prelude.{ℕ, zero, suc, ◌+◌, ◌*◌, ◌/◌, ◌%◌, List, [], ◌∷◌, get_or, drop}
use Rattle.ground.specs.Lists.{joined}
use Rattle.loadlist.specs.declared.Record.{Record}

-- "Operations: 0, 1, 2 the constants 0, 1, X; 3 input (bit number); 4 not; 5 and; 6 or; 7 xor; 8 output (slot, output bit number; its slot is a copy)"
abbrev pub input_op : ℕ
input_op = 3

abbrev pub not_op : ℕ
not_op = 4

abbrev pub and_op : ℕ
and_op = 5

abbrev pub or_op : ℕ
or_op = 6

abbrev pub xor_op : ℕ
xor_op = 7

abbrev pub output_op : ℕ
output_op = 8

-- "Unused fields are 0"
abbrev pub rec : ℕ → ℕ → ℕ → Record
rec op first second = record { op = op; first = first; second = second }

abbrev pub record_bytes : Record → List ℕ
record_bytes r = 0x47 ∷ 0x53 ∷ r.op ∷ 0 ∷ r.first % 256 ∷ r.first / 256 ∷ r.second % 256 ∷ r.second / 256 ∷ []

abbrev pub list_bytes : List Record → List ℕ
list_bytes rs = joined record_bytes rs

-- the record at the front of the bytes
abbrev pub record_in : List ℕ → Record
record_in s = rec (get_or s 2 0) (get_or s 4 0 + 256 * get_or s 5 0) (get_or s 6 0 + 256 * get_or s 7 0)

unfoldable pub records_in : ℕ → List ℕ → List Record
records_in zero s = []
records_in (suc n) s = record_in s ∷ records_in n (drop 8 s)
