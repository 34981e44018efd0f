-- The cells noted so far, with one more.
-- Assumes nothing.
use mathlib.Core.Path.{◌≡◌, refl, sym, ap, subst, ◌∙◌}
use mathlib.Core.Bool.{Bool, false}
use mathlib.Core.List.{List, [], ◌∷◌, ◌++◌, map, append_assoc, append-nil}
use Prim.Native.Nat.{ℕ, zero, suc, ◌+◌, ◌*◌, ◌<◌, ◌≤◌}
use native.Mathlib.Omega.{arith}
use lib.ListN.{length, set, length-append}
use lib.Seq.{sets}
use Rattle.ground.specs.Lists.{joined}
use Rattle.ground.specs.Regions.{pad}
use Rattle.ground.proofs.Regions.{pad_put}
use Rattle.ground.proofs.Counts.{length_mapped}
use Rattle.brackets.specs.declared.Operand.{Operand}
use Rattle.netlist.specs.Netlist.{Run, Cell, cell_runs, runs_of, run_bits_of}
use Rattle.netlist.proofs.Lengths.{run_bits_append}
use Rattle.saying.specs.Pieces.{PieceAt, operand_pieces}
use Rattle.saying.specs.Values.{row_of}
use Rattle.saying.specs.Notes.{CellNote, cell_note, cells_said, Spells, SpellCells, none, more, operand_word, Maps}
use Rattle.asking.proofs.RowLaws.{joined_length}
use Rattle.laying.specs.Holding.{Holds}
use Rattle.laying.specs.Bare.{Covers}
use Rattle.laying.proofs.Covering.{covers_join}
use Rattle.laying.specs.declared.Laid.{Laid}
use Rattle.noting.specs.Noted.{CellsHeld}
use Rattle.wiring.proofs.CellLists.{joined_append, joined_more, map_more}
use Rattle.wiring.proofs.CellMaps.{maps_more}

pub note_wide : (x : CellNote) → length (cell_note x) ≡ 9
unfolding cell_note
note_wide x = refl

spell_more : {text : List ℕ} {ns : List CellNote} (x : CellNote) → SpellCells text ns → Spells text x.name_at x.cell.name → SpellCells text (ns ++ (x ∷ []))
spell_more x none s = more s none
spell_more x (more h hs) s = more h (spell_more x hs s)

three_pieces : (text : List ℕ) (a b c : Operand) → joined (operand_pieces text) (a ∷ b ∷ c ∷ []) ≡ operand_pieces text a ++ (operand_pieces text b ++ operand_pieces text c)
unfolding joined
three_pieces text a b c = rw append-nil

module _ (text : List ℕ) (cs : List Cell) (numbers : List ℕ) (pieces : List PieceAt) (cells runs trits numbered places : List ℕ) (laid : Laid) (bare : Bool)
    (h : CellsHeld text cs numbers pieces cells runs trits numbered places laid bare) where
  pub noted_count : length h.notes ≡ length cs
  noted_count = sym (length_mapped (λ (x : CellNote). x.cell) h.notes) ∙ ap length h.said

  module _ (c : Cell) (at i : ℕ) (oa ob oc : Operand) (few : length cs < 512) (spelt : Spells text at c.name) (narrow : length (run_bits_of (cell_runs c)) ≤ 513)
      (fresh : row_of numbers i ≡ 0) (small : i < 65536) {cells' runs' trits' numbered' places' : List ℕ} {laid' : Laid}
      (k j v : ℕ) (at_row : k ≡ length cs * 9) (at-three : j ≡ length cs * 3) (row : v ≡ length cs + 1)
      (is-cells : cells' ≡ sets cells k (cell_note (record { cell = c; name_at = at })))
      (is-runs : Holds (runs_of cs ++ cell_runs c) runs' trits' laid')
      (is-map : numbered' ≡ set numbered i v)
      (is-places : places' ≡ sets places j (operand_word oa ∷ operand_word ob ∷ operand_word oc ∷ []))
      (bare' : Bool) (covers : bare' ≡ false → (bare ≡ false) × Covers (cell_runs c) (operand_pieces text oa ++ (operand_pieces text ob ++ operand_pieces text oc))) where
    abbrev x : CellNote
    x = record { cell = c; name_at = at }

    long_rows : length (joined cell_note h.notes) ≡ length cs * 9
    long_rows = joined_length cell_note 9 note_wide h.notes ∙ ap (λ (m : ℕ). m * 9) noted_count

    rows_more : cells' ≡ pad 4608 (joined cell_note (h.notes ++ (x ∷ [])))
    rows_more =
        let e = long_rows in
        is-cells ∙ ap (λ (l : List ℕ). sets l k (cell_note x)) h.rows
        ∙ pad_put 4608 k (joined cell_note h.notes) (cell_note x) (omega arith) (omega (arith, note_wide x))
        ∙ ap (pad 4608) (sym (joined_more cell_note h.notes x))

    long_places : length (map operand_word h.operands) ≡ length cs * 3
    long_places = length_mapped operand_word h.operands ∙ h.threes

    places_more : places' ≡ pad 1536 (map operand_word (h.operands ++ (oa ∷ ob ∷ oc ∷ [])))
    places_more =
        let e = long_places in
        is-places ∙ ap (λ (l : List ℕ). sets l j (operand_word oa ∷ operand_word ob ∷ operand_word oc ∷ [])) h.placed
        ∙ pad_put 1536 j (map operand_word h.operands) (operand_word oa ∷ operand_word ob ∷ operand_word oc ∷ []) (omega arith) (omega arith)
        ∙ ap (pad 1536) (sym (map_more operand_word h.operands (oa ∷ ob ∷ oc ∷ [])))

    length_more : length (cs ++ (c ∷ [])) ≡ length cs + 1
    length_more = length-append cs (c ∷ [])

    runs_are : runs_of (cs ++ (c ∷ [])) ≡ runs_of cs ++ cell_runs c
    runs_are = joined_more cell_runs cs c

    pub held_more : CellsHeld text (cs ++ (c ∷ [])) (numbers ++ (i ∷ [])) (pieces ++ (operand_pieces text oa ++ (operand_pieces text ob ++ operand_pieces text oc))) cells' runs' trits' numbered' places' laid' bare'
    held_more =
        let w : v ≡ length numbers + 1 = omega (arith, h.count) in
        record {
          notes = h.notes ++ (x ∷ []);
          said = map_more (λ (y : CellNote). y.cell) h.notes (x ∷ []) ∙ ap (λ (l : List Cell). l ++ (c ∷ [])) h.said;
          rows = rows_more;
          spelled = spell_more x h.spelled spelt;
          holds = subst (λ (rs : List Run). Holds rs runs' trits' laid') (sym runs_are) is-runs;
          narrow = rw runs_are (omega (arith, run_bits_append (runs_of cs) (cell_runs c), h.narrow, length_more));
          maps = rw (is-map, w) (maps_more numbers numbered i h.maps fresh small);
          count = length-append numbers (i ∷ []) ∙ omega (arith, h.count, length_more);
          operands = h.operands ++ (oa ∷ ob ∷ oc ∷ []);
          placed = places_more;
          threes = length-append h.operands (oa ∷ ob ∷ oc ∷ []) ∙ omega (arith, h.threes, length_more);
          asked = joined_append (operand_pieces text) h.operands (oa ∷ ob ∷ oc ∷ []) ∙ rw (h.asked, three_pieces text oa ob oc);
          covered = λ e. rw runs_are (covers_join (h.covered (covers e).0) (covers e).1);
        }
