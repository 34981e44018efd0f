-- The rules 9 to 13 of a cell, in the paper's order.
-- Assumes nothing.
use Rattle.std.specs.Prelude.{Result, Ok, Err}
use mathlib.Core.Path.{◌≡◌, refl, sym, ap, subst, ◌∙◌}
use mathlib.Core.Bool.{Bool, true, false, not, ◌&&◌, ◌||◌}
use mathlib.Core.List.{List, [], ◌∷◌, map}
use mathlib.Core.Option.{Option, none, some}
use Prim.Native.Nat.{ℕ, ◌<◌, ◌≤◌}
use native.Mathlib.Omega.{arith}
use lib.Dec.{leb, eqb}
use lib.ListN.{length}
use borrow.Author.Tests.{leb-false}
use Rattle.ground.specs.Choice.{pick}
use Rattle.ground.specs.Refusals.{refusal}
use Rattle.ground.proofs.Bools.{bool_cases, or_false}
use Rattle.ground.specs.declared.Place.{Place}
use Rattle.ground.specs.declared.Refusal.{Refusal}
use Rattle.ground.proofs.Counts.{length_mapped}
use Rattle.kinds.specs.Kinds.{kind_at}
use Rattle.form.specs.declared.Wiring.{Wiring}
use Rattle.form.specs.declared.Declared.{Declared}
use Rattle.form.specs.declared.Decl.TheVariants as decl
use Rattle.netlist.specs.Netlist.{Meta, Cell}
use Rattle.netlist.specs.Rules.{any_kind, taken, names_as, cell_width, roomy}
use Rattle.netlist.proofs.Laying.{roomy_is}
use Rattle.saying.specs.Values.{row_of, name_in}
use Rattle.saying.specs.Notes.{MetaNote, CellNote, cells_said, metas_said}
use Rattle.saying.specs.Rules.{Sofar, Said, cell, cell_of, pieces_of, said_by, added, twice, declares, Asked, misnamed, first_misnamed, incomplete, misfit, ruled, ruled_out}
use Rattle.asking.specs.References as references
use Rattle.asking.specs.Namesakes.{CellsNoted}
use Rattle.noting.specs.Formed.{WiringIn, DeclIn}
use Rattle.noting.specs.Noted.{cells_in, Noted, After}
use Rattle.wiring.specs.CellAdding.{nameless, tight, Passed, said_with, Kept}
use Rattle.noting.specs.declared.Tally.{Tally}
use Rattle.wiring.proofs.CellKeep.{name_long, out_is}
use Rattle.wiring.proofs.CellMore.{noted_count}
use Rattle.wiring.proofs.CellTight.{cramped}

abbrev pub cell_said : List ℕ → Sofar → Wiring → Said
cell_said text so w = cell (cell_of text so w) w.a.width w.b.width w.c.width (pieces_of text w)

abbrev pub meta_asked : Wiring → Asked
meta_asked w = record { ref = w.meta; allowed = any_kind }

first_wrong : (so : Sofar) (q : Asked) → misnamed so q ≡ true → first_misnamed so (q ∷ []) ≡ some q.ref.place
unfolding first_misnamed
first_wrong so q h = rw (h, first_misnamed)

first_right : (so : Sofar) (q : Asked) → misnamed so q ≡ false → first_misnamed so (q ∷ []) ≡ none
unfolding first_misnamed
first_right so q h = rw (h, first_misnamed)

-- a declared cell of good form
pub wiring_in : (text : List ℕ) (d : Declared) (w : Wiring) → d.decl ≡ decl.Cell w → DeclIn text d.decl → WiringIn text w
wiring_in text d w e h = subst (DeclIn text) e h

-- WHAT THE TESTS SAY
module _ (text : List ℕ) (so : Sofar) (n : Tally) (rows bits work : List ℕ) (h : Noted text so n rows bits work) (w : Wiring) where
  pub cells_count : n.cells ≡ length h.cells.notes
  cells_count = h.tally.cells ∙ sym (ap length h.cells.said) ∙ length_mapped (λ (x : CellNote). x.cell) h.cells.notes

  pub cells_noted : CellsNoted text (cells_in rows) n.cells
  cells_noted = record { notes = h.cells.notes; rows = h.cells.rows; count = cells_count; names = h.cells.spelled }

  pub metas_count : n.metas ≡ length h.metas.notes
  metas_count = h.tally.metas ∙ sym (ap length h.metas.said) ∙ length_mapped (λ (x : MetaNote). x.meta) h.metas.notes

  pub asked_twice : (index : ℕ) (b : Bool)
      → b ≡ (declares so.cell_numbers index || ((kind_at w.kind).named && taken (name_in text (kind_at w.kind).named w.name) (names_as w.kind (cells_said h.cells.notes))))
      → twice so index (cell_said text so w) ≡ b
  asked_twice index b e = sym (e ∙ ap (λ (cs : List Cell). declares so.cell_numbers index || ((kind_at w.kind).named && taken (name_in text (kind_at w.kind).named w.name) (names_as w.kind cs))) h.cells.said)

  pub asked_meta : (b : Bool) → b ≡ references.misnamed any_kind (references.kinds_said h.metas.notes) so.meta_numbers w.meta → misnamed so (meta_asked w) ≡ b
  asked_meta b e = sym (e ∙ ap (λ (ms : List Meta). references.misnamed any_kind (map (λ (m : Meta). m.kind) ms) so.meta_numbers w.meta) h.metas.said)

  module _ (i : WiringIn text w) where
    pub asked_name : (b : Bool) → b ≡ nameless w → incomplete (cell_said text so w) ≡ b
    asked_name b e = bool_cases (kind_at w.kind).named (λ t. rw (e, t) (rw (i.name t).size)) (λ f. rw (e, f))

    pub asked_tight : tight n w ≡ true → roomy (said_with text so 0 w).netlist ≡ false
    asked_tight t = cramped n w so.netlist (cell_of text so w) h.tally refl (name_long text w i) (out_is text w i so) t

-- THE REFUSALS
module _ (text : List ℕ) (so : Sofar) (d : Declared) (w : Wiring) (e : d.decl ≡ decl.Cell w) where
  ruled_is : ruled_out text so d ≡ pick (twice so d.index (cell_said text so w)) (some (refusal 9 d.place)) (ruled so d (cell_said text so w) (first_misnamed so (meta_asked w ∷ [])))
  unfolding ruled_out said_by
  ruled_is = rw e

  pub out_twice : twice so d.index (cell_said text so w) ≡ true → ruled_out text so d ≡ some (refusal 9 d.place)
  out_twice t = ruled_is ∙ rw t

  module _ (t9 : twice so d.index (cell_said text so w) ≡ false) where
    past_twice : ruled_out text so d ≡ ruled so d (cell_said text so w) (first_misnamed so (meta_asked w ∷ []))
    past_twice = ruled_is ∙ rw t9

    pub fresh : row_of so.cell_numbers d.index ≡ 0
    fresh = let q = leb-false 1 (row_of so.cell_numbers d.index) (or_false (declares so.cell_numbers d.index) _ t9).0 in omega arith

    pub out_misnamed : misnamed so (meta_asked w) ≡ true → ruled_out text so d ≡ some (refusal 10 w.meta.place)
    out_misnamed t = past_twice ∙ rw (first_wrong so (meta_asked w) t)

    module _ (t10 : misnamed so (meta_asked w) ≡ false) where
      past_meta : ruled_out text so d ≡ ruled so d (cell_said text so w) none
      past_meta = past_twice ∙ rw (first_right so (meta_asked w) t10)

      pub out_incomplete : incomplete (cell_said text so w) ≡ true → ruled_out text so d ≡ some (refusal 11 d.place)
      out_incomplete t = past_meta ∙ rw t

      module _ (t11 : incomplete (cell_said text so w) ≡ false) where
        pub out_misfit : misfit (cell_said text so w) ≡ true → ruled_out text so d ≡ some (refusal 12 d.place)
        out_misfit t = past_meta ∙ rw (t11, t)

        module _ (t12 : misfit (cell_said text so w) ≡ false) where
          pub out_cramped : roomy (said_with text so d.index w).netlist ≡ false → ruled_out text so d ≡ some (refusal 13 d.place)
          unfolding added
          out_cramped t = past_meta ∙ rw (t11, t12, t)

          pub out_none : roomy (said_with text so d.index w).netlist ≡ true → ruled_out text so d ≡ none
          unfolding added
          out_none t = past_meta ∙ rw (t11, t12, t)

          added_is : added so d.index (said_by text so d.decl) ≡ said_with text so d.index w
          unfolding added said_by
          added_is = rw e

          pub kept_after : (r : Result Tally Refusal) (rows bits work : List ℕ) → Kept text so d.index d.place w r rows bits work → After text so d r rows bits work
          kept_after (Err g) rows bits work (k, t) = out_cramped t ∙ ap (λ (x : Refusal). some x) (sym k)
          kept_after (Ok m) rows bits work (t, k) = (out_none t, subst (λ (s : Sofar). Noted text s m rows bits work) (sym added_is) k)
