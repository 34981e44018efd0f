-- The outcome of a printing: each way out, over plain lists.
use Rattle.std.specs.Prelude.{Ok, Err}
use Prim.Native.Nat.{ℕ, ◌≤◌, ◌<◌, min}
use mathlib.Core.Path.{◌≡◌, ap, ◌∙◌}
use mathlib.Core.Bool.{true}
use mathlib.Core.List.{List, []}
use native.Mathlib.Omega.{arith}
use lib.ListN.{length, length-take, length-drop}
use borrow.Author.Tests.{lt-ltb, le-ltb}
use Rattle.ground.specs.Refusals.{at, refusal}
use Rattle.ground.specs.Regions.{part, over}
use Rattle.ground.specs.declared.Refusal.{Refusal}
use Rattle.ground.proofs.Outcome.{any_two}
use Rattle.netlist.specs.Netlist.{Netlist}
use Rattle.netlist.specs.Tables.{tables_in}
use Rattle.netlist.specs.Good.{good, check_of, netlist_in}
use Rattle.netlist.proofs.Laying.{Long}
use Rattle.writing.specs.Stands.{most, Wrote}
use Rattle.writing.proofs.Stands.{standing}
use Rattle.lines.specs.Lines.{canonical}
use Rattle.printing.specs.Whole.{canonical_then, Ready}
use Rattle.printing.specs.Outcome.{Outcome, made, written, print_of}
use Rattle.printing.proofs.Whole.{nothing_more, counts}
use Rattle.printing.proofs.Sound.{good_sound}

long_in : (rows strings bits : List ℕ) → 26307 ≤ length rows → 16384 ≤ length strings → 393728 ≤ length bits → Long (tables_in rows strings bits)
unfolding tables_in part
long_in rows strings bits r s t = record {
  metas = simp (length-take, length-drop) (omega arith);
  members = simp (length-take, length-drop) (omega arith);
  ios = simp (length-take, length-drop) (omega arith);
  cells = simp (length-take, length-drop) (omega arith);
  runs = simp (length-take, length-drop) (omega arith);
  strings = simp length-take (omega arith);
  attr_bits = simp length-take (omega arith);
  run_bits = simp (length-take, length-drop) (omega arith);
}

-- 24: the room is shorter than the text, or than its count, which a text may exceed
pub room_short : (text room : List ℕ) (n : ℕ) → n ≡ min (length text) most → length room < n → made (Err (refusal 24 (at 0))) room ≡ written text room
unfolding written
room_short text room n e h = rw (lt-ltb (length room) (length text) (omega (arith, e)))

-- the room is long enough; as no slice has the largest count of bytes, the count is the length
pub room_enough : (N : Netlist) {l l' : List ℕ} {n r : ℕ} → length l < most → n ≡ min (length (canonical N)) most → n ≤ length l → r ≤ most
    → Wrote l 0 (canonical_then N) l' r → made (Ok r) l' ≡ written (canonical N) l
unfolding written
room_enough N {l} {l'} {n} {r} f e h b p =
    let text = canonical N in
    let k : length text ≤ length l = omega (arith, e) in
    let c = counts N p b in
    let g : r ≡ length text = omega (arith, c, k) in
    let m = nothing_more N in
    let q : length (canonical_then N []) ≤ length l = rw m k in
    let z : l' ≡ over (length text) text l = standing p q ∙ ap (λ (x : List ℕ). over (length x) x l) m in
    rw (le-ltb (length l) (length text) k) (λ i. made (Ok (g i)) (z i))

-- TABLES THAT WERE CHECKED are long enough and sound
pub good_ready : {rows strings bits : List ℕ} → (26307 ≤ length rows) × (16384 ≤ length strings) × (393728 ≤ length bits) × (good (tables_in rows strings bits) ≡ true) → Ready rows strings bits
good_ready {rows} {strings} {bits} p = record {
  rows_long = p.0;
  strings_long = p.1;
  bits_long = p.2;
  sound = good_sound (tables_in rows strings bits) (long_in rows strings bits p.0 p.1 p.2) p.3;
}

-- ANY LENT TABLES: 1 and 15 as the check says, else what is written
module _ (rows strings bits room : List ℕ) where
  pub not_printed : (g : Refusal) → check_of rows strings bits ≡ Err g → made (Err g) room ≡ print_of rows strings bits room
  unfolding print_of
  not_printed g h = rw h

  pub is_printed : (o : Outcome) → check_of rows strings bits ≡ Ok tt → o ≡ written (canonical (netlist_in rows strings bits)) room → o ≡ print_of rows strings bits room
  unfolding print_of
  is_printed o h e = rw h e

-- EACH ANSWER IS DETERMINED: two outcomes that the contract allows are equal
pub print_one : (rows strings bits room : List ℕ) (o p : Outcome) → o ≡ print_of rows strings bits room → p ≡ print_of rows strings bits room → o ≡ p
print_one rows strings bits room = any_two (print_of rows strings bits) room
