-- The making of a cell, step by step: what is left to make gives what the whole gives.
use mathlib.Core.Path.{◌≡◌, refl, ap, ap₂, sym, ◌∙◌}
use mathlib.Core.List.{List, [], ◌∷◌, ◌++◌, append_assoc}
use Prim.Native.Nat.{ℕ, ◌+◌, ◌*◌, ◌-◌, ◌≤◌}
use native.Mathlib.Omega.{arith}
use lib.ListN.{length, set, length-append}
use lib.Seq.{sets, length-sets}
use Rattle.ground.specs.Lists.{joined}
use Rattle.ground.specs.Writes.{Wrote}
use Rattle.ground.proofs.Writes.{sets_append, wrote_length}
use Rattle.loadlist.specs.declared.Record.{Record}
use Rattle.loadlist.specs.Records.{list_bytes, record_bytes}
use Rattle.cells.specs.Records.{Made, made, then}
use Rattle.loadlist.proofs.Laws.{bytes_long}
use Rattle.recording.specs.Making.{Puts, Recorded, recorded, recorded_of, Room}

-- RECORDS, one behind the other
bytes_append : (rs ss : List Record) → list_bytes (rs ++ ss) ≡ list_bytes rs ++ list_bytes ss
unfolding joined
bytes_append [] ss = refl
bytes_append (r ∷ rs) ss = ap (λ (l : List ℕ). record_bytes r ++ l) (bytes_append rs ss) ∙ sym (append_assoc (record_bytes r) (list_bytes rs) (list_bytes ss))

-- the records written in two parts
sets_records : (l : List ℕ) (k : ℕ) (rs ss : List Record)
    → sets l (8 * k) (list_bytes (rs ++ ss)) ≡ sets (sets l (8 * k) (list_bytes rs)) (8 * (k + length rs)) (list_bytes ss)
sets_records l k rs ss =
    let n = bytes_long rs in
    let e : 8 * k + length (list_bytes rs) ≡ 8 * (k + length rs) = omega arith in
    rw (bytes_append rs ss, sets_append, e)

pub puts_one : {l a : List ℕ} {k : ℕ} {r : Record} → a ≡ sets l (8 * k) (record_bytes r) → Puts l k (r ∷ []) a
unfolding joined
puts_one e = record { is = e }

pub puts_then : {l a b : List ℕ} {k n : ℕ} {rs ss : List Record} → Puts l k rs a → n ≡ k + length rs → Puts a n ss b → Puts l k (rs ++ ss) b
puts_then {l} {a} {b} {k} {n} {rs} {ss} p e q =
    record { is = q.is ∙ ap₂ (λ x m. sets x (8 * m) (list_bytes ss)) p.is e ∙ sym (sets_records l k rs ss) }

pub puts_length : {l a : List ℕ} {k : ℕ} {rs : List Record} → Puts l k rs a → length a ≡ length l
puts_length {l} {a} {k} {rs} p = ap length p.is ∙ length-sets l (8 * k) (list_bytes rs)

pub puts_nothing : (l : List ℕ) (k : ℕ) → Puts l k [] l
unfolding joined
puts_nothing l k = record { is = refl }

-- WHAT IS LEFT: `m` is made from record k and place `at` on, and gives what `whole` gives from record `from` and place 0 on
pub record Left (whole : Made) (from : ℕ) (list₀ outs₀ : List ℕ) (m : Made) (k at : ℕ) (list outs : List ℕ) : Type 0 where
  pub lists : sets list (8 * k) (list_bytes m.records) ≡ sets list₀ (8 * from) (list_bytes whole.records)
  pub bits : sets outs at m.outs ≡ sets outs₀ 0 whole.outs
  pub count : k + length m.records ≡ from + length whole.records
  pub since : from ≤ k
  pub slots : k + length m.records ≤ 8192
  pub bytes : 8 * (k + length m.records) ≤ length list
  pub room : at + length m.outs ≤ length outs
  pub long : length list ≡ length list₀
  pub wide : length outs ≡ length outs₀

pub left_whole : {m : Made} {k : ℕ} {list outs : List ℕ} → Room m k list outs → Left m k list outs m k 0 list outs
left_whole r = record { lists = refl; bits = refl; count = refl; since = omega arith; slots = r.slots; bytes = r.bytes; room = omega (arith, r.bits); long = refl; wide = refl }

-- `all` is these records, with these slots of bits, before what is made later
pub record Step (all : Made) (rs : List Record) (os : List ℕ) (m : Made) : Type 0 where
  pub is : all ≡ then rs os m

module _ {whole all m : Made} {from : ℕ} {list₀ outs₀ : List ℕ} {k at : ℕ} {list outs : List ℕ} {rs : List Record} {os : List ℕ} where
  module _ (s : Step all rs os m) (l : Left whole from list₀ outs₀ all k at list outs) where
    records_left : length all.records ≡ length rs + length m.records
    records_left = ap (λ (x : Made). length x.records) s.is ∙ length-append rs m.records

    bits_left : length all.outs ≡ length os + length m.outs
    bits_left = ap (λ (x : Made). length x.outs) s.is ∙ length-append os m.outs

    -- the room of a step
    pub step_room : (k + length rs ≤ 8192) × (8 * (k + length rs) ≤ length list) × (at + length os ≤ length outs)
    step_room =
        let a = records_left in
        let b = bits_left in
        (omega (arith, l.slots), omega (arith, l.bytes), omega (arith, l.room))

    pub left_more : {n i : ℕ} {new row : List ℕ} → Puts list k rs new → n ≡ k + length rs → Wrote outs at os row → i ≡ at + length os
        → Left whole from list₀ outs₀ m n i new row
    left_more {n} {i} {new} {row} p en w ei =
        let a = records_left in
        let b = bits_left in
        let pl = puts_length p in
        let wl = wrote_length w in
        record {
          lists =
              ap₂ (λ x j. sets x (8 * j) (list_bytes m.records)) p.is en ∙ sym (sets_records list k rs m.records)
              ∙ ap (λ (x : Made). sets list (8 * k) (list_bytes x.records)) (sym s.is) ∙ l.lists;
          bits =
              ap₂ (λ x j. sets x j m.outs) w.is ei ∙ sym (sets_append outs at os m.outs)
              ∙ ap (λ (x : Made). sets outs at x.outs) (sym s.is) ∙ l.bits;
          count = omega (arith, l.count);
          since = omega (arith, l.since);
          slots = omega (arith, l.slots);
          bytes = omega (arith, l.bytes);
          room = omega (arith, l.room);
          long = pl ∙ l.long;
          wide = wl ∙ l.wide;
        }

module _ {whole all m : Made} {from : ℕ} {list₀ outs₀ : List ℕ} {k at : ℕ} {list outs : List ℕ} {rs : List Record} where
  -- a step that makes no bit of the cell
  pub left_quiet : Step all rs [] m → Left whole from list₀ outs₀ all k at list outs → {n : ℕ} {new : List ℕ} → Puts list k rs new → n ≡ k + length rs
      → Left whole from list₀ outs₀ m n at new outs
  left_quiet s l p e = left_more s l p e (record { is = refl }) (omega arith)

  -- a step that makes the bit at the place `at`
  pub left_bit : {x : ℕ} → Step all rs (x ∷ []) m → Left whole from list₀ outs₀ all k at list outs → {n y : ℕ} {new : List ℕ} → Puts list k rs new → n ≡ k + length rs → y ≡ x
      → Left whole from list₀ outs₀ m n (at + 1) new (set outs at y)
  left_bit s l p e f = left_more s l p e (record { is = ap (λ (z : ℕ). set outs at z) f }) (omega arith)

module _ {whole : Made} {from : ℕ} {list₀ outs₀ : List ℕ} {k at : ℕ} {list outs : List ℕ} where
  -- nothing is left
  pub left_none : {m : Made} → m ≡ made [] [] → Left whole from list₀ outs₀ m k at list outs → {n : ℕ} → n ≡ k - from
      → recorded n list outs ≡ recorded_of whole from list₀ outs₀
  unfolding joined
  left_none {m} d l {n} e =
      let a : Left whole from list₀ outs₀ (made [] []) k at list outs = rw d at l in
      let c : n ≡ length whole.records = omega (arith, a.count) in
      rw (c, ← a.lists, ← a.bits)

-- what is left is made by a call
module _ {whole : Made} {from : ℕ} {list₀ outs₀ : List ℕ} {k : ℕ} {list outs : List ℕ} where
  pub left_room : {m : Made} → Left whole from list₀ outs₀ m k 0 list outs → Room m k list outs
  left_room l = record { slots = l.slots; bytes = l.bytes; bits = omega (arith, l.room) }

  pub left_called : {m : Made} → Left whole from list₀ outs₀ m k 0 list outs → {r n : ℕ} {new row : List ℕ} → recorded r new row ≡ recorded_of m k list outs
      → from + n ≡ k + r → recorded n new row ≡ recorded_of whole from list₀ outs₀
  left_called {m} l {r} {n} {new} {row} e f =
      let a : r ≡ length m.records = ap (λ (x : Recorded). x.count) e in
      let c : n ≡ length whole.records = omega (arith, l.count) in
      let b : new ≡ sets list (8 * k) (list_bytes m.records) = ap (λ (x : Recorded). x.list) e in
      let d : row ≡ sets outs 0 m.outs = ap (λ (x : Recorded). x.outs) e in
      rw (c, b, d, l.lists, l.bits)

  pub left_small : {m : Made} → Left whole from list₀ outs₀ m k 0 list outs → {r : ℕ} {new row : List ℕ} → recorded r new row ≡ recorded_of m k list outs → r ≤ 8192
  left_small {m} l {r} e = let a : r ≡ length m.records = ap (λ (x : Recorded). x.count) e in omega (arith, l.slots)
