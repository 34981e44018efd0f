-- What is written as a record is read back as that record.
use mathlib.Core.Path.{◌≡◌, refl, ap, ◌∙◌}
use mathlib.Core.List.{List, [], ◌∷◌, ◌++◌, append_assoc}
use Prim.Native.Nat.{ℕ, suc, ◌+◌, ◌*◌, ◌/◌, ◌%◌, ◌≤◌}
use native.Mathlib.Omega.{arith}
use lib.ListN.{length, take, drop, set}
use lib.Seq.{sets, sets-eq, drop_at, length-take-le}
use Rattle.ground.specs.Lists.{joined}
use Rattle.loadlist.specs.declared.Record.{Record}
use Rattle.loadlist.specs.Records.{record_in, records_in, record_bytes, list_bytes}
use Rattle.loadlist.specs.Check.{record_count, records}

-- eight stores, one behind the other
pub eight : (l : List ℕ) (at a b c d e f g h : ℕ)
    → set (set (set (set (set (set (set (set l at a) (at + 1) b) (at + 2) c) (at + 3) d) (at + 4) e) (at + 5) f) (at + 6) g) (at + 7) h
    ≡ sets l at (a ∷ b ∷ c ∷ d ∷ e ∷ f ∷ g ∷ h ∷ [])
eight l at a b c d e f g h =
    let p1 : at + 1 ≡ suc at = omega arith in
    let p2 : at + 2 ≡ suc (suc at) = omega arith in
    let p3 : at + 3 ≡ suc (suc (suc at)) = omega arith in
    let p4 : at + 4 ≡ suc (suc (suc (suc at))) = omega arith in
    let p5 : at + 5 ≡ suc (suc (suc (suc (suc at)))) = omega arith in
    let p6 : at + 6 ≡ suc (suc (suc (suc (suc (suc at))))) = omega arith in
    let p7 : at + 7 ≡ suc (suc (suc (suc (suc (suc (suc at)))))) = omega arith in
    rw (p1, p2, p3, p4, p5, p6, p7)

halves : (x : ℕ) → x % 256 + 256 * (x / 256) ≡ x
halves x = omega arith

pub read_back : (r : Record) (t : List ℕ) → record_in (record_bytes r ++ t) ≡ r
read_back r t = rw (halves r.first, halves r.second)

-- the same in place k of a list with room for it
pub put_back : (s : List ℕ) (k : ℕ) (r : Record) → 8 * k + 8 ≤ length s → record_in (drop (8 * k) (sets s (8 * k) (record_bytes r))) ≡ r
put_back s k r h =
    ap (λ (x : List ℕ). record_in (drop (8 * k) x)) (sets-eq (record_bytes r) s (8 * k) h ∙ append_assoc (take (8 * k) s) (record_bytes r) _)
    ∙ ap record_in (drop_at (take (8 * k) s) (record_bytes r ++ drop (8 * k + 8) s) (8 * k) (length-take-le (8 * k) s (omega arith)))
    ∙ read_back r (drop (8 * k + 8) s)

-- and of a list of records
list_back : (rs : List Record) → records_in (length rs) (list_bytes rs) ≡ rs
unfolding records_in joined
list_back [] = refl
list_back (r ∷ rs) = rw (halves r.first, halves r.second) (ap (λ (l : List Record). r ∷ l) (list_back rs))

list_long : (rs : List Record) → length (list_bytes rs) ≡ 8 * length rs
unfolding joined
list_long [] = omega arith
list_long (r ∷ rs) = let l = list_long rs in omega arith

-- a list of records is the records of its bytes
pub records_back : (rs : List Record) → records (list_bytes rs) ≡ rs
records_back rs =
    let l = list_long rs in
    let e : record_count (list_bytes rs) ≡ length rs = omega arith in
    ap (λ (n : ℕ). records_in n (list_bytes rs)) e ∙ list_back rs
