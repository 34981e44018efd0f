-- Laws of the definitions at a record of the list: what the code's returns and loops go by.
use mathlib.Core.Path.{◌≡◌, sym, ◌∙◌}
use mathlib.Core.Bool.{true, false, ◌&&◌}
use mathlib.Core.List.{List, [], ◌∷◌}
use Prim.Native.Nat.{ℕ, ◌+◌, ◌*◌, ◌/◌, ◌<◌, ◌≤◌}
use native.Mathlib.Nat.{add-zero}
use native.Mathlib.Omega.{arith}
use lib.Dec.{eqb, leb, ltb}
use lib.ListN.{length, take, drop, get_or, length-take, length-drop}
use lib.Seq.{get_or-drop}
use borrow.Author.Tests.{lt-ltb, le-ltb, le-leb, lt-leb, leb-true, leb-false, eq-eqb, ne_eqb}
use Rattle.ground.specs.Lists.{joined}
use Rattle.ground.proofs.Bools.{bool_cases}
use Rattle.ground.proofs.Rest.{rest_end}
use Rattle.loadlist.specs.Records.{rec, record_in, list_bytes}
use Rattle.loadlist.specs.declared.Record.{Record}
use Rattle.loadlist.specs.Check.{is_whole, marked, first_fits, second_fits, fits, good_record}

-- a record is whole where eight bytes are left
pub whole_there : (s : List ℕ) (k : ℕ) → leb (8 * k + 8) (length s) ≡ is_whole (drop (8 * k) s)
whole_there s k = bool_cases (leb (8 * k + 8) (length s))
    (λ e. let h = leb-true (8 * k + 8) (length s) e in
    let p : length (take 8 (drop (8 * k) s)) ≡ 8 = simp (length-take, length-drop) (omega arith) in
    e ∙ sym (eq-eqb _ 8 p))
    (λ e. let h = leb-false (8 * k + 8) (length s) e in
    let p : length (take 8 (drop (8 * k) s)) ≡ 8 → ⊥ = λ q. let l = simp (length-take, length-drop) at q in omega arith in
    e ∙ sym (ne_eqb _ 8 p))

-- the bytes of record k stand at 8 * k
pub read_there : (s : List ℕ) (at : ℕ) {op first second : ℕ} → op ≡ get_or s (at + 2) 0 → first ≡ get_or s (at + 4) 0 + 256 * get_or s (at + 5) 0 → second ≡ get_or s (at + 6) 0 + 256 * get_or s (at + 7) 0 → rec op first second ≡ record_in (drop at s)
read_there s at o f g = rw (o, f, g) (simp get_or-drop)

-- a field of two bytes, each read by itself
pub read_field : {x low high a b : ℕ} → x ≡ low + 256 * high → low ≡ a → high ≡ b → x ≡ a + 256 * b
read_field e l h = rw (← l, ← h) e

-- past the end a record of zeros is read
pub read_past : (s : List ℕ) (k : ℕ) → length s / 8 < k → rec 0 0 0 ≡ record_in (drop (8 * k) s)
read_past s k h = let p : length s ≤ 8 * k = omega arith in rw (rest_end s (8 * k) p)

-- the tests of a good record, in their order
module _ (s : List ℕ) (k inputs outputs : ℕ) where
  pub good_late : 8192 ≤ k → false ≡ good_record s k inputs outputs
  unfolding good_record
  good_late h = rw (le-ltb k 8192 h)

  module _ (early : k < 8192) where
    pub good_part : is_whole s ≡ false → false ≡ good_record s k inputs outputs
    unfolding good_record
    good_part e = rw (lt-ltb k 8192 early, e)

    module _ (whole : is_whole s ≡ true) where
      pub good_unmarked : marked s ≡ false → false ≡ good_record s k inputs outputs
      unfolding good_record
      good_unmarked e = rw (lt-ltb k 8192 early, whole, e)

      module _ (mark : marked s ≡ true) where
        pub good_fields : fits (record_in s) k inputs outputs ≡ good_record s k inputs outputs
        unfolding good_record
        good_fields = rw (lt-ltb k 8192 early, whole, mark)

-- the fields of a known operation, in their order
module _ (r : Record) (k inputs outputs : ℕ) (known : r.op ≤ 8) where
  pub fits_second : first_fits r k inputs ≡ true → second_fits r k outputs ≡ fits r k inputs outputs
  fits_second e = rw (le-leb r.op 8 known, e)

  pub fits_first : first_fits r k inputs ≡ false → false ≡ fits r k inputs outputs
  fits_first e = rw (le-leb r.op 8 known, e)

-- a gate of two fields fits where both are earlier slots
pub gate_fits : (r : Record) (k inputs outputs : ℕ) → 4 < r.op → r.op < 8 → (ltb r.first k && ltb r.second k) ≡ fits r k inputs outputs
gate_fits r k inputs outputs h l =
    rw (le-leb r.op 8 (omega arith), le-ltb r.op 3 (omega arith), ne_eqb r.op 3 (λ e. omega arith), lt-leb r.op 4 h, ne_eqb r.op 8 (λ e. omega arith))

-- the mark's tests, in their order
module _ (s : List ℕ) (at : ℕ) where
  pub mark_first : (get_or s at 0 ≡ 0x47 → ⊥) → false ≡ marked (drop at s)
  mark_first e = simp (get_or-drop, add-zero, ne_eqb (get_or s at 0) 0x47 e)

  module _ (first : get_or s at 0 ≡ 0x47) where
    pub mark_second : (get_or s (at + 1) 0 ≡ 0x53 → ⊥) → false ≡ marked (drop at s)
    mark_second e = simp (get_or-drop, add-zero, eq-eqb (get_or s at 0) 0x47 first, ne_eqb (get_or s (at + 1) 0) 0x53 e)

    pub mark_zero : get_or s (at + 1) 0 ≡ 0x53 → eqb (get_or s (at + 3) 0) 0 ≡ marked (drop at s)
    mark_zero e = simp (get_or-drop, add-zero, eq-eqb (get_or s at 0) 0x47 first, eq-eqb (get_or s (at + 1) 0) 0x53 e)

-- the bytes of records
pub bytes_long : (rs : List Record) → length (list_bytes rs) ≡ 8 * length rs
unfolding joined
bytes_long [] = omega arith
bytes_long (r ∷ rs) = let l = bytes_long rs in omega arith
