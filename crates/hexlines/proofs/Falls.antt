-- Fewer records are left at the moved reader.
use mathlib.Core.Path.{◌≡◌}
use mathlib.Core.Bool.{true}
use Prim.Native.Nat.{ℕ, ◌-◌, ◌<◌}
use native.Mathlib.Omega.{arith}
use borrow.Author.Tests.{ltb-true}
use Rattle.loadlist.specs.Check.{record_count}
use Rattle.records.specs.Reader.{is_left, moved}
use Rattle.records.specs.declared.Records.{Records}

-- the records that are left
abbrev pub left : Records → ℕ
left r = record_count r.list.now - r.number

moved_left : (r : Records) → is_left r ≡ true → left (moved r) < left r
moved_left r e =
    let h : r.number < record_count r.list.now = ltb-true r.number (record_count r.list.now) e in
    rw e (omega arith)

pub falls : (r r' : Records) → is_left r ≡ true → r' ≡ moved r → left r' < left r
falls r r' e m = rw m (moved_left r e)
