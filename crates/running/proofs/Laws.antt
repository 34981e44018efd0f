-- Laws of the run: the walk that makes the slots, and what it leaves.
use mathlib.Core.Path.{◌≡◌, refl, ap, ap₂, sym, ◌∙◌}
use mathlib.Core.Bool.{Bool, true, false}
use mathlib.Core.List.{List, [], ◌∷◌, ◌++◌}
use Prim.Native.Nat.{ℕ, ◌+◌, ◌*◌, ◌-◌, ◌<◌, ◌≤◌}
use native.Mathlib.Omega.{arith}
use native.Mathlib.Numerals.{add-one}
use lib.Dec.{ltb}
use lib.ListN.{length, take, drop, get_or, set, length-set, length-take, take-append-drop, get_or-eq_default}
use lib.Seq.{get_or-take, take-suc-set, drop-set-lt, drop-drop}
use borrow.Author.Tests.{lt-ltb, le-ltb, eq-eqb, ne_eqb}
use Rattle.ground.specs.Lists.{every}
use Rattle.ground.specs.Regions.{over}
use Rattle.ground.proofs.Rest.{rest_cons, rest_end}
use Rattle.loadlist.specs.declared.Record.{Record}
use Rattle.loadlist.specs.Records.{record_in, records_in}
use Rattle.loadlist.specs.Run.{slot_of, slots_from}
use Rattle.loadlist.proofs.Walk.{records_more}
use Rattle.trit.specs.Trit.{not_of}
use Rattle.running.specs.Gates.{gate_of}

-- the slot of a record, by its operation
module _ (r : Record) (ins slots : List ℕ) where
  pub slot_gate : 4 < r.op → gate_of r.op (get_or slots r.first 0) (get_or slots r.second 0) ≡ slot_of r ins slots
  slot_gate h = rw (le-ltb r.op 3 (omega arith), ne_eqb r.op 3 (λ e. omega arith), ne_eqb r.op 4 (λ e. omega arith))

  pub slot_not : r.op ≤ 4 → 3 ≤ r.op → (r.op ≡ 3 → ⊥) → not_of (get_or slots r.first 0) ≡ slot_of r ins slots
  slot_not h l n = rw (le-ltb r.op 3 l, ne_eqb r.op 3 n, eq-eqb r.op 4 (omega arith))

-- the test of an assignment, byte by byte
abbrev pub trits : List ℕ → Bool
trits s = every (λ x. ltb x 3) s

module _ (s : List ℕ) (i : ℕ) where
  pub trits_on : i < length s → get_or s i 0 < 3 → trits (drop i s) ≡ trits (drop (i + 1) s)
  unfolding every
  trits_on l h = rw (rest_cons s i l, lt-ltb (get_or s i 0) 3 h, every)

  pub trits_stop : i < length s → 3 ≤ get_or s i 0 → trits (drop i s) ≡ false
  unfolding every
  trits_stop l h = rw (rest_cons s i l, le-ltb (get_or s i 0) 3 h, every)

  pub trits_end : length s ≤ i → trits (drop i s) ≡ true
  unfolding every
  trits_end h = rw (rest_end s i h)

-- a slot that is not made yet reads as 0
pub slot_made : (work : List ℕ) (k i : ℕ) → i < k → get_or work i 0 ≡ get_or (take k work) i 0
slot_made work k i h = sym (get_or-take k work i 0 h)

pub slot_later : (work : List ℕ) (k i : ℕ) → k ≤ i → 0 ≡ get_or (take k work) i 0
slot_later work k i h =
    let l : length (take k work) ≤ i = rw length-take (omega arith) in
    sym (get_or-eq_default (take k work) 0 l)

-- k slots of n are made, and the work space past them is what it was
pub record Made (list ins : List ℕ) (n : ℕ) (old : List ℕ) (k : ℕ) (work : List ℕ) : Type 0 where
  pub left : slots_from (records_in (n - k) (drop (8 * k) list)) ins (take k work) ≡ slots_from (records_in n list) ins []
  pub stays : drop k work ≡ drop k old
  pub long : length work ≡ length old

pub made_none : (list ins : List ℕ) (n : ℕ) (old : List ℕ) → Made list ins n old 0 old
made_none list ins n old = let e : n - 0 ≡ n = omega arith in record { left = rw e; stays = refl; long = refl }

module _ {list ins old work : List ℕ} {n k : ℕ} (m : Made list ins n old k work) where
  pub made_more : {r : Record} {x : ℕ} → k < n → k < length work → r ≡ record_in (drop (8 * k) list) → x ≡ slot_of r ins (take k work)
      → Made list ins n old (k + 1) (set work k x)
  unfolding slots_from
  made_more {r} {x} more room er ex =
      let front : take (k + 1) (set work k x) ≡ take k work ++ (x ∷ []) = rw add-one (take-suc-set work k x room) in
      let left : slots_from (record_in (drop (8 * k) list) ∷ records_in (n - (k + 1)) (drop (8 * (k + 1)) list)) ins (take k work)
      ≡ slots_from (records_in n list) ins [] = rw (records_more list n k more) at m.left in
      let tail : drop (k + 1) work ≡ drop (k + 1) old = sym (drop-drop 1 k work) ∙ ap (λ (l : List ℕ). drop 1 l) m.stays ∙ drop-drop 1 k old in
      record {
        left = rw (front, ex, er) left;
        stays = drop-set-lt (k + 1) work k x (omega arith) ∙ tail;
        long = length-set work k x ∙ m.long;
      }

  pub made_all : k ≡ n → work ≡ over n (slots_from (records_in n list) ins []) old
  unfolding over slots_from records_in
  made_all e =
      let z : n - k ≡ 0 = omega arith in
      let front : take k work ≡ slots_from (records_in n list) ins [] = rw z at m.left in
      sym (take-append-drop k work) ∙ ap₂ (λ a b. a ++ b) front (m.stays ∙ ap (λ (j : ℕ). drop j old) e)
