-- THE TABLES THAT AN ACCEPTED READING LEAVES ARE GOOD, and show the netlist that the text says.
use Rattle.std.specs.Prelude.{Result, Ok, Err}
use mathlib.Core.Path.{◌≡◌, refl, ap, ◌∙◌}
use mathlib.Core.Bool.{true, false, ◌||◌}
use mathlib.Core.List.{List, ◌++◌}
use Prim.Native.Nat.{ℕ, ◌≤◌}
use native.Mathlib.Omega.{arith}
use lib.Dec.{ltb}
use lib.ListN.{length, drop, length-append}
use borrow.Author.Tests.{le-ltb}
use Rattle.ground.specs.Refusals.{at, refusal}
use Rattle.ground.specs.Regions.{over}
use Rattle.ground.specs.declared.Refusal.{Refusal}
use Rattle.ground.proofs.Bools.{bool_cases}
use Rattle.netlist.specs.Netlist.{Netlist}
use Rattle.netlist.specs.Rules.{valid}
use Rattle.netlist.specs.Tables.{Tables, layout, rows_of, bits_of, rows_length, strings_length, bits_length}
use Rattle.netlist.specs.View.{view}
use Rattle.netlist.specs.Good.{short, check_of, netlist_in}
use Rattle.netlist.proofs.Laying.{Long, view_layout, good_layout}
use Rattle.netlist.proofs.Lengths.{layout_long}
use Rattle.netlist.proofs.Slices.{tables_back}
use Rattle.declaring.specs.Reading.{Reading, says, refused, reading}
use Rattle.reading.specs.Outcome.{Outcome, left, read_of, work_length}
use Rattle.accepting.proofs.Accepted.{accepted_valid}

-- a layout has the fixed lengths, whatever stands behind it
not_short : (T : Tables) → Long T → (xs ys zs : List ℕ) → short (rows_of T ++ xs) (T.strings ++ ys) (bits_of T ++ zs) ≡ false
unfolding short rows_of bits_of
not_short T l xs ys zs =
    let cr = T.cells ++ T.runs in
    let icr = T.ios ++ cr in
    let micr = T.members ++ icr in
    let rows : 26307 ≤ length (rows_of T ++ xs) =
    omega (
      arith,
      length-append (rows_of T) xs,
      length-append T.metas micr,
      length-append T.members icr,
      length-append T.ios cr,
      length-append T.cells T.runs,
      l.metas,
      l.members,
      l.ios,
      l.cells,
      l.runs,
    ) in
    let strings : 16384 ≤ length (T.strings ++ ys) = omega (arith, length-append T.strings ys, l.strings) in
    let bits : 393728 ≤ length (bits_of T ++ zs) = omega (arith, length-append (bits_of T) zs, length-append T.attr_bits T.run_bits, l.attr_bits, l.run_bits) in
    rw (le-ltb (length (rows_of T ++ xs)) 26307 rows, le-ltb (length (T.strings ++ ys)) 16384 strings, le-ltb (length (bits_of T ++ zs)) 393728 bits)

-- A VALID NETLIST laid in lent slices passes the check, and is shown by them
module _ (N : Netlist) (v : valid N ≡ true) (xs ys zs : List ℕ) where
  pub laid_good : check_of (rows_of (layout N) ++ xs) ((layout N).strings ++ ys) (bits_of (layout N) ++ zs) ≡ Ok tt
  unfolding check_of
  laid_good = rw (not_short (layout N) (layout_long N v) xs ys zs, tables_back (layout N) (layout_long N v) xs ys zs, good_layout N v)

  pub laid_shown : netlist_in (rows_of (layout N) ++ xs) ((layout N).strings ++ ys) (bits_of (layout N) ++ zs) ≡ N
  laid_shown = ap view (tables_back (layout N) (layout_long N v) xs ys zs) ∙ view_layout N v

-- AFTER AN ACCEPTED READING the tables pass the check, and show what the text says, which is valid
pub record Accepted (text : List ℕ) (o : Outcome) : Type 0 where
  pub netlist : Netlist
  pub said : reading text ≡ says netlist
  pub valid : valid netlist ≡ true
  pub good : check_of o.rows o.strings o.bits ≡ Ok tt
  pub shown : netlist_in o.rows o.strings o.bits ≡ netlist

never_accepted : {P : Type 0} (g : Refusal) → ◌≡◌ {A = Result (Unit {0}) Refusal} (Err g) (Ok tt) → P
never_accepted g e = let z : ◌≡◌ {A = ℕ} 0 1 = cc in absurd (omega arith)

left_good : (text rows strings bits work : List ℕ) (r : Reading) → reading text ≡ r → (left rows strings bits work r).answer ≡ Ok tt → Accepted text (left rows strings bits work r)
unfolding over
left_good text rows strings bits work (says N) f e =
    let v = accepted_valid text N f in
    record {
      netlist = N;
      said = f;
      valid = v;
      good = laid_good N v (drop rows_length rows) (drop strings_length strings) (drop bits_length bits);
      shown = laid_shown N v (drop rows_length rows) (drop strings_length strings) (drop bits_length bits);
    }
left_good text rows strings bits work (refused g) f e = never_accepted g e

pub accepted_good : (text rows strings bits work : List ℕ) → (read_of text rows strings bits work).answer ≡ Ok tt → Accepted text (read_of text rows strings bits work)
unfolding read_of
accepted_good text rows strings bits work e = bool_cases (short rows strings bits || ltb (length work) work_length)
    (λ s. never_accepted (refusal 1 (at 0)) (rw s at e))
    (λ s. rw s (left_good text rows strings bits work (reading text) refl (rw s at e)))

-- and every text that says a netlist is accepted where the slices have their lengths
pub says_accepted : (text rows strings bits work : List ℕ) (N : Netlist) → reading text ≡ says N → short rows strings bits ≡ false → work_length ≤ length work
    → (read_of text rows strings bits work).answer ≡ Ok tt
unfolding read_of
says_accepted text rows strings bits work N e s w = rw (s, le-ltb (length work) work_length w, e)
