-- What the noted declarations answer, and the ways out of a reading.
use Rattle.std.specs.Prelude.{Result, Ok, Err, Option, Some, None}
use mathlib.Core.Path.{◌≡◌, refl, sym, ap, ap₂, ◌∙◌, subst}
use mathlib.Core.Bool.{Bool, true, false, ◌||◌}
use mathlib.Core.List.{List, [], ◌∷◌, ◌++◌, map, append_assoc}
use mathlib.Core.Option.{Option as Found, none, some}
use Prim.Native.Nat.{ℕ, zero, suc, ◌+◌, ◌-◌, ◌*◌, ◌<◌, ◌≤◌}
use native.Mathlib.Nat.{zero-add, suc-mul, suc-add, add_assoc}
use native.Mathlib.Omega.{arith}
use lib.Dec.{ltb}
use lib.ListN.{length, get_or, length-append, get_or-append}
use lib.Seq.{get_or-append-add}
use borrow.Author.Tests.{lt-ltb, le-ltb}
use Rattle.ground.specs.Choice.{pick}
use Rattle.ground.specs.Lists.{joined, every}
use Rattle.ground.proofs.Bools.{never_both}
use Rattle.ground.proofs.Outcome.{any_two}
use Rattle.ground.specs.Regions.{pad, zeros, over}
use Rattle.ground.specs.Refusals.{at, refusal}
use Rattle.ground.specs.declared.Place.{Place}
use Rattle.ground.specs.declared.Refusal.{Refusal}
use Rattle.ground.proofs.Counts.{length_mapped}
use Rattle.scanning.specs.Whole.{whole_of}
use Rattle.netlist.specs.Netlist.{Cell, Netlist, runs_of}
use Rattle.netlist.specs.Rules.{widths_of}
use Rattle.netlist.specs.Good.{short}
use Rattle.saying.specs.Pieces.{operand_pieces, first_unresolved}
use Rattle.saying.specs.Rules.{Sofar}
use Rattle.saying.specs.Notes.{CellNote, cell_note, cells_said}
use Rattle.noting.specs.Noted.{cells_in, runs_in, cell_map_in, places_in, Noted}
use Rattle.noting.specs.declared.Tally.{Tally}
use Rattle.resolving.specs.Resolving.{Looks, rows_resolve, lost_at, lost_of}
use Rattle.resolving.proofs.Finding.{all_found}
use Rattle.resolving.proofs.RunsFound.{runs_sound}
use Rattle.declaring.specs.Reading.{Reading, says, refused, declarations_from, netlist_of, read_sound, reading}
use Rattle.reading.specs.Outcome.{Outcome, made, left, filled, behind_rows, behind_strings, behind_bits, behind_work, read_of}
use Rattle.finishing.specs.Finish.{Ready, Settled}
use Rattle.declaring.specs.Going.{Blank, Whole, AllNoted, AllOf}
use Rattle.reading.specs.Answers.{rows_found, FindsLost, Laid, AnswersOf, Answers, ClearsOf, Clears, Ends}
use Rattle.reading.proofs.Final.{rows_final, bits_final, strings_final}

-- THE WIDTHS stand in the cell rows
width_at : (ns : List CellNote) (z : List ℕ) (i : ℕ) → i < length ns → get_or (joined cell_note ns ++ z) (i * 9 + 1) 0 ≡ get_or (widths_of (cells_said ns)) i 0
unfolding joined cell_note
width_at [] z i h = absurd (omega arith)
width_at (x ∷ ns) z zero h = refl
width_at (x ∷ ns) z (suc i) h =
    let e : suc i * 9 + 1 ≡ 9 + (i * 9 + 1) = rw suc-mul (omega arith) in
    ap (λ (k : ℕ). get_or (cell_note x ++ joined cell_note ns ++ z) k 0) e ∙ get_or-append-add (cell_note x) (joined cell_note ns ++ z) (i * 9 + 1) 0 ∙ width_at ns z i (omega arith)

looks : (text : List ℕ) (so : Sofar) (n : Tally) (rows bits work : List ℕ) → Noted text so n rows bits work → Looks so.cell_numbers (widths_of so.netlist.cells) (cell_map_in work) (cells_in rows)
unfolding pad
looks text so n rows bits work d =
    let ns = d.cells.notes in
    let e : widths_of (cells_said ns) ≡ widths_of so.netlist.cells = ap widths_of d.cells.said in
    let l : length (widths_of so.netlist.cells) ≡ length so.netlist.cells = length_mapped (λ (c : Cell). c.width) so.netlist.cells in
    let m : length ns ≡ length so.netlist.cells = sym (length_mapped (λ (x : CellNote). x.cell) ns) ∙ ap length d.cells.said in
    record {
      maps = d.cells.maps;
      count = d.cells.count ∙ sym l;
      width = λ i h. ap (λ (t : List ℕ). get_or t (i * 9 + 1) 0) d.cells.rows ∙ width_at ns (zeros (4608 - length (joined cell_note ns))) i (omega (arith, l, m)) ∙ ap (λ (t : List ℕ). get_or t i 0) e;
    }

pub lost_found : (text : List ℕ) (n : Tally) (rows work : List ℕ) (r : Option Place) → r ≡ lost_of text (cell_map_in work) (cells_in rows) (n.cells * 3) (places_in work) → FindsLost text n rows work r
lost_found text n rows work r e = record {
  is = λ so bits d.
      e ∙ all_found so.cell_numbers (widths_of so.netlist.cells) (cell_map_in work) (cells_in rows) (looks text so n rows bits work d) text d.cells.operands (places_in work) (n.cells * 3) d.cells.placed
      (d.cells.threes ∙ ap (λ (k : ℕ). k * 3) (sym d.tally.cells))
      ∙ ap (λ (ps : List _). lost_at (first_unresolved so.cell_numbers (widths_of so.netlist.cells) ps)) d.cells.asked;
}

-- run rows that tell that all is found
pub rows_tell : (text : List ℕ) (n : Tally) (rows work : List ℕ) → rows_found n rows work ≡ true → FindsLost text n rows work None
rows_tell text n rows work e = record {
  is = λ so bits d.
      let t = both n.bare (rows_resolve (cell_map_in work) (cells_in rows) n.runs (runs_in rows)) e in
      let resolved =
      runs_sound so.cell_numbers (widths_of so.netlist.cells) (cell_map_in work) (cells_in rows) (looks text so n rows bits work d) (runs_of so.netlist.cells) (runs_in rows) n.runs
      d.cells.holds.rows (sym d.cells.holds.count) t.1 in
      ap lost_at (sym ((d.cells.covered t.0).all so.cell_numbers (widths_of so.netlist.cells) resolved));
}
  where
    both : (b r : Bool) → pick b false r ≡ true → (b ≡ false) × (r ≡ true)
    both true r e = never_both e refl
    both false r e = (refl, e)

-- THE END of a reading whose declarations are all noted
found_at : (o : Found Place) (p : Place) → lost_at o ≡ Some p → o ≡ some p
found_at none p e = cc
found_at (some q) p e = cc

found_none : (o : Found Place) → lost_at o ≡ None → o ≡ none
found_none none e = refl
found_none (some q) e = cc

module _ {text : List ℕ} {n : Tally} {rows work : List ℕ} {v : Option Place} (f : FindsLost text n rows work v) where
  none_lost : v ≡ None → (bits : List ℕ) (w : Whole text n rows bits work) → first_unresolved w.so.cell_numbers (widths_of w.so.netlist.cells) w.so.pieces ≡ none
  none_lost e bits w = found_none _ (sym (f.is w.so bits w.noted) ∙ e)

  pub all_ready : v ≡ None → (bits : List ℕ) (w : Whole text n rows bits work) → Ready text w.so n rows bits work
  all_ready e bits w = record { noted = w.noted; declared = w.knows.declared w.so.cell_numbers (widths_of w.so.netlist.cells) (none_lost e bits w) }

  pub end_lost : (p : Place) → v ≡ Some p → (strings : List ℕ) → Ends text n rows work (Err (refusal 14 p)) rows strings
  unfolding read_sound
  end_lost p e strings = record {
    of = λ bits w. record { of = rw (w.is, found_at (first_unresolved w.so.cell_numbers (widths_of w.so.netlist.cells) w.so.pieces) p (sym (f.is w.so bits w.noted) ∙ e)) };
  }

  pub end_found : v ≡ None → {rows' strings strings' : List ℕ} → strings ≡ zeros 16384 → ((so : Sofar) (bits : List ℕ) → Ready text so n rows bits work → strings ≡ zeros 16384 → Settled so rows' strings' bits)
      → Ends text n rows work (Ok tt) rows' strings'
  unfolding read_sound
  end_found e {rows'} {strings} {strings'} z s = record {
    of = λ bits w.
        let d = s w.so bits (all_ready e bits w) z in
        record {
          of = record {
            netlist = netlist_of w.so;
            is = rw (w.is, none_lost e bits w);
            rows = rows_final w.so rows' strings' bits d;
            strings = strings_final w.so rows' strings' bits d;
            bits = bits_final w.so rows' strings' bits d;
          };
        };
  }

-- a declaration that is refused, or all of them
module _ {text : List ℕ} {v : Result Tally Refusal} {rows bits work : List ℕ} (a : AllNoted text v rows bits work) where
  pub sound_stopped : (g : Refusal) → v ≡ Err g → {rows' strings' bits' : List ℕ} → Answers text (Err g) rows' strings' bits'
  unfolding read_sound
  sound_stopped g e = record { of = rw (subst (λ (x : Result Tally Refusal). AllOf text x rows bits work) e a.after) }

  pub sound_all : (n : Tally) → v ≡ Ok n → Whole text n rows bits work
  sound_all n e = subst (λ (x : Result Tally Refusal). AllOf text x rows bits work) e a.after

-- THE ANSWER with its tables
answered : (text : List ℕ) (r v : Result (Unit {0}) Refusal) (rows strings bits rows' strings' bits' : List ℕ) → AnswersOf text r rows strings bits → ClearsOf r rows strings bits v rows' strings' bits'
    → made v rows' strings' bits' (zeros 132608) ≡ filled (read_sound text)
answered text (Ok tt) v rows strings bits rows' strings' bits' a c =
    rw (c.0, c.1, c.2, c.3, a.is, a.rows, a.strings, a.bits)
answered text (Err g) v rows strings bits rows' strings' bits' a c = rw (c.0, c.1, c.2, c.3, a)

module _ (text : List ℕ) where
  pub sound_read : whole_of text ≡ Ok tt → {r v : Result (Unit {0}) Refusal} {rows strings bits rows' strings' bits' : List ℕ} → Answers text r rows strings bits → Clears r rows strings bits v rows' strings' bits'
      → made v rows' strings' bits' (zeros 132608) ≡ filled (reading text)
  unfolding reading
  sound_read e {r} {v} {rows} {strings} {bits} {rows'} {strings'} {bits'} a c = rw e (answered text r v rows strings bits rows' strings' bits' a.of c.of)

  pub unsound_read : (g : Refusal) → whole_of text ≡ Err g → made (Err g) (zeros 26307) (zeros 16384) (zeros 393728) (zeros 132608) ≡ filled (reading text)
  unfolding reading
  unsound_read g e = rw e

-- A REFUSAL leaves the tables zero
module _ {r : Result (Unit {0}) Refusal} {rows strings bits : List ℕ} where
  pub clears_none : r ≡ Ok tt → Clears r rows strings bits (Ok tt) rows strings bits
  clears_none e = record { of = subst (λ (x : Result (Unit {0}) Refusal). ClearsOf x rows strings bits (Ok tt) rows strings bits) (sym e) (refl, refl, refl, refl) }

  pub clears_all : (g : Refusal) → r ≡ Err g → {rows' strings' bits' : List ℕ} → rows' ≡ zeros 26307 → strings' ≡ zeros 16384 → bits' ≡ zeros 393728
      → Clears r rows strings bits (Err g) rows' strings' bits'
  clears_all g e {rows'} {strings'} {bits'} a b c = record { of = subst (λ (x : Result (Unit {0}) Refusal). ClearsOf x rows strings bits (Err g) rows' strings' bits') (sym e) (refl, a, b, c) }

-- SLICES of any length
filled_behind : (rows strings bits work : List ℕ) (v : Reading) → behind_rows rows (behind_strings strings (behind_bits bits (behind_work work (filled v)))) ≡ left rows strings bits work v
unfolding over
filled_behind rows strings bits work (says N) = refl
filled_behind rows strings bits work (refused g) = refl

module _ (text rows strings bits work : List ℕ) where
  -- the contract of `read_text` allows one outcome
  pub read_one : (o p : Outcome) → o ≡ read_of text rows strings bits work → p ≡ read_of text rows strings bits work → o ≡ p
  read_one = any_two (λ (t : List ℕ). read_of t rows strings bits work) text

  pub short_rows : length rows < 26307 → made (Err (refusal 1 (at 0))) rows strings bits work ≡ read_of text rows strings bits work
  unfolding read_of short
  short_rows h = rw (lt-ltb (length rows) 26307 h)

  module _ (a : 26307 ≤ length rows) where
    pub short_strings : length strings < 16384 → made (Err (refusal 1 (at 0))) rows strings bits work ≡ read_of text rows strings bits work
    unfolding read_of short
    short_strings h = rw (le-ltb (length rows) 26307 a, lt-ltb (length strings) 16384 h)

    module _ (b : 16384 ≤ length strings) where
      pub short_bits : length bits < 393728 → made (Err (refusal 1 (at 0))) rows strings bits work ≡ read_of text rows strings bits work
      unfolding read_of short
      short_bits h = rw (le-ltb (length rows) 26307 a, le-ltb (length strings) 16384 b, lt-ltb (length bits) 393728 h)

      module _ (c : 393728 ≤ length bits) where
        pub short_work : length work < 132608 → made (Err (refusal 1 (at 0))) rows strings bits work ≡ read_of text rows strings bits work
        unfolding read_of short
        short_work h = rw (le-ltb (length rows) 26307 a, le-ltb (length strings) 16384 b, le-ltb (length bits) 393728 c, lt-ltb (length work) 132608 h)

        pub all_long : 132608 ≤ length work → {o : Outcome} → o ≡ behind_rows rows (behind_strings strings (behind_bits bits (behind_work work (filled (reading text))))) → o ≡ read_of text rows strings bits work
        unfolding read_of short
        all_long h e =
            rw (le-ltb (length rows) 26307 a, le-ltb (length strings) 16384 b, le-ltb (length bits) 393728 c, le-ltb (length work) 132608 h)
            (e ∙ filled_behind rows strings bits work (reading text))
