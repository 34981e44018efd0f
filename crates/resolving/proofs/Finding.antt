-- The search by the tables is rule 14's search over the text's pieces.
use Rattle.std.specs.Prelude.{Option, Some, None}
use mathlib.Core.Path.{◌≡◌, refl, sym, ap, ◌∙◌}
use mathlib.Core.Bool.{Bool, true, false, not, ◌&&◌}
use mathlib.Core.List.{List, [], ◌∷◌, ◌++◌, map}
use mathlib.Core.Option.{Option as Found, none, some}
use Prim.Native.Nat.{ℕ, zero, suc, ◌+◌, ◌-◌, ◌*◌, ◌<◌, ◌≤◌}
use native.Mathlib.Nat.{add-zero}
use native.Mathlib.Numerals.{add-one, sub-one}
use native.Mathlib.Omega.{arith}
use lib.Dec.{eqb, leb, ltb, eqb-suc-zero}
use lib.ListN.{length, drop, get_or}
use lib.Seq.{get_or-drop, drop-drop}
use borrow.Author.Tests.{leb-true, lt-ltb}
use Rattle.ground.specs.Choice.{pick}
use Rattle.ground.specs.Lists.{joined}
use Rattle.ground.specs.Regions.{pad, zeros}
use Rattle.ground.specs.declared.Place.{Place}
use Rattle.ground.proofs.Bools.{bool_cases}
use Rattle.brackets.specs.Parts.{PartAt, parts_at}
use Rattle.brackets.specs.declared.Piece.{Piece}
use Rattle.brackets.specs.declared.Base.{Base}
use Rattle.brackets.specs.declared.Base.TheVariants as base
use Rattle.brackets.specs.declared.Part.{Part}
use Rattle.brackets.specs.declared.Part.TheVariants as part
use Rattle.brackets.specs.declared.Operand.{Operand}
use Rattle.netlist.specs.Rules.{resolves}
use Rattle.saying.specs.Values.{row_from, row_of}
use Rattle.saying.specs.Pieces.{PieceAt, base_pieces, base_in, operand_pieces, unresolved, first_unresolved}
use Rattle.saying.specs.Notes.{Maps, operand_word}
use Rattle.laying.specs.Growing.{BaseIn, PartIn, PartsIn, none, more}
use Rattle.laying.proofs.Inside.{operand_in}
use Rattle.resolving.specs.Resolving.{Looks, resolves_in, base_lost, lost_at, lost_from, operand_of, lost_of}

-- a row that is found is one of the rows
pub row_most : (ns : List ℕ) (i row : ℕ) → 1 ≤ row → row_from ns i row < row + length ns
unfolding row_from
row_most [] i row h = omega arith
row_most (n ∷ ns) i row h = bool_cases (eqb n i)
    (λ e. rw (e, row_from) (omega arith))
    (λ e. rw (e, row_from) (let m = row_most ns i (row + 1) (omega arith) in omega arith))

module _ (numbers widths numbered cells : List ℕ) (l : Looks numbers widths numbered cells) where
  -- a piece of the text by the tables
  piece_lost : (p : Piece) (place : Place) → p.cell < 65536 → not (resolves_in numbered cells p) ≡ unresolved numbers widths (record { piece = p; place = place })
  piece_lost p place h =
      let e : get_or numbered p.cell 0 ≡ row_of numbers p.cell = l.maps.is p.cell h in
      rw e (bool_cases (leb 1 (row_of numbers p.cell))
      (λ s. let k : 1 ≤ row_of numbers p.cell = leb-true 1 (row_of numbers p.cell) s in
      let m : row_of numbers p.cell - 1 < length widths = (let b = row_most numbers p.cell 1 (omega arith) in omega (arith, l.count)) in
      rw (s, l.width (row_of numbers p.cell - 1) m, lt-ltb (row_of numbers p.cell - 1) (length widths) m))
      (λ s. rw s))

  base_found : (b : Base) (place : Place) (text : List ℕ) (rest : List PieceAt) (lost : Option Place) → BaseIn text b → lost ≡ lost_at (first_unresolved numbers widths rest)
      → elim (base_lost numbered cells b) as (λ _. (Option Place)) [ true ↦ Some place | false ↦ lost ] ≡ lost_at (first_unresolved numbers widths (base_pieces place b ++ rest))
  unfolding first_unresolved
  base_found (base.Constant s) place text rest lost i e = e
  base_found (base.Cell p) place text rest lost i e =
      let q = piece_lost p place (let c = i.0 in omega arith) in
      rw q (bool_cases (unresolved numbers widths (record { piece = p; place = place })) (λ u. rw (u, first_unresolved)) (λ u. rw (u, first_unresolved) e))

  base_in_lem : (text : List ℕ) (p : Part) → PartIn text p → BaseIn text (base_in p)
  base_in_lem text (part.One b) i = i
  base_in_lem text (part.Repeated b n) i = i

  parts_found : (text : List ℕ) (ps : List PartAt) → PartsIn text ps
      → lost_from numbered cells ps ≡ lost_at (first_unresolved numbers widths (joined (λ p. base_pieces p.place (base_in p.part)) ps))
  unfolding lost_from joined first_unresolved
  parts_found text [] i = refl
  parts_found text (p ∷ ps) (more i is) =
      base_found (base_in p.part) p.place text (joined (λ p. base_pieces p.place (base_in p.part)) ps) (lost_from numbered cells ps) (base_in_lem text p.part i) (parts_found text ps is)

  pub operand_found : (text : List ℕ) (o : Operand) → lost_from numbered cells (parts_at text o) ≡ lost_at (first_unresolved numbers widths (operand_pieces text o))
  unfolding operand_pieces
  operand_found text o = parts_found text (parts_at text o) (operand_in text o)

-- the operand that a word tells has the parts of the one that it was made of
word_parts : (text : List ℕ) (o : Operand) → parts_at text (operand_of (operand_word o)) ≡ parts_at text o
unfolding parts_at
word_parts text o = bool_cases o.given (λ e. rw e (simp (add-one, eqb-suc-zero, sub-one))) (λ e. rw e)

first_append : (numbers widths : List ℕ) (ps qs : List PieceAt) → first_unresolved numbers widths ps ≡ none → first_unresolved numbers widths (ps ++ qs) ≡ first_unresolved numbers widths qs
unfolding first_unresolved
first_append numbers widths [] qs e = refl
first_append numbers widths (p ∷ ps) qs e = bool_cases (unresolved numbers widths p)
    (λ u. let z = rw (u, first_unresolved) at e in cc)
    (λ u. rw (u, first_unresolved) (first_append numbers widths ps qs (rw (u, first_unresolved) at e)))

first_stays : (numbers widths : List ℕ) (ps qs : List PieceAt) (k : Place) → first_unresolved numbers widths ps ≡ some k → first_unresolved numbers widths (ps ++ qs) ≡ some k
unfolding first_unresolved
first_stays numbers widths [] qs k e = cc
first_stays numbers widths (p ∷ ps) qs k e = bool_cases (unresolved numbers widths p)
    (λ u. rw (u, first_unresolved) (rw (u, first_unresolved) at e))
    (λ u. rw (u, first_unresolved) (first_stays numbers widths ps qs k (rw (u, first_unresolved) at e)))

-- how the search over words goes on
module _ (text numbered cells : List ℕ) (n : ℕ) (places : List ℕ) where
  pub lost_on : lost_from numbered cells (parts_at text (operand_of (get_or places 0 0))) ≡ None → lost_of text numbered cells (suc n) places ≡ lost_of text numbered cells n (drop 1 places)
  unfolding lost_of
  lost_on e = rw (e, lost_of)

  pub lost_stop : (k : Place) → lost_from numbered cells (parts_at text (operand_of (get_or places 0 0))) ≡ Some k → lost_of text numbered cells (suc n) places ≡ Some k
  unfolding lost_of
  lost_stop k e = rw (e, lost_of)

module _ (numbers widths numbered cells : List ℕ) (l : Looks numbers widths numbered cells) (text : List ℕ) where
  words_found : (os : List Operand) (behind : List ℕ)
      → lost_of text numbered cells (length os) (map operand_word os ++ behind) ≡ lost_at (first_unresolved numbers widths (joined (operand_pieces text) os))
  unfolding lost_of joined first_unresolved
  words_found [] behind = refl
  words_found (o ∷ os) behind = go (first_unresolved numbers widths (operand_pieces text o)) refl (words_found os behind)
    where
      go : (v : Found Place) → first_unresolved numbers widths (operand_pieces text o) ≡ v
          → lost_of text numbered cells (length os) (map operand_word os ++ behind) ≡ lost_at (first_unresolved numbers widths (joined (operand_pieces text) os))
          → lost_of text numbered cells (suc (length os)) (operand_word o ∷ (map operand_word os ++ behind)) ≡ lost_at (first_unresolved numbers widths (operand_pieces text o ++ joined (operand_pieces text) os))
      go none e ih =
          lost_on text numbered cells (length os) (operand_word o ∷ (map operand_word os ++ behind)) (ap (lost_from numbered cells) (word_parts text o) ∙ operand_found numbers widths numbered cells l text o ∙ ap lost_at e)
          ∙ ih ∙ ap lost_at (sym (first_append numbers widths (operand_pieces text o) (joined (operand_pieces text) os) e))
      go (some k) e ih =
          lost_stop text numbered cells (length os) (operand_word o ∷ (map operand_word os ++ behind)) k (ap (lost_from numbered cells) (word_parts text o) ∙ operand_found numbers widths numbered cells l text o ∙ ap lost_at e)
          ∙ ap lost_at (sym (first_stays numbers widths (operand_pieces text o) (joined (operand_pieces text) os) k e))

  -- RULE 14 BY THE TABLES
  pub all_found : (os : List Operand) (places : List ℕ) (n : ℕ) → places ≡ pad 1536 (map operand_word os) → length os ≡ n
      → lost_of text numbered cells n places ≡ lost_at (first_unresolved numbers widths (joined (operand_pieces text) os))
  unfolding pad
  all_found os places n e c = rw (e, ← c) (words_found os (zeros (1536 - length (map operand_word os))))

-- how the search over the parts of a walk goes on
module _ (numbered cells : List ℕ) (p : PartAt) (ps : List PartAt) where
  pub part_stop : base_lost numbered cells (base_in p.part) ≡ true → lost_from numbered cells (p ∷ ps) ≡ Some p.place
  unfolding lost_from
  part_stop e = rw (e, lost_from)

  pub part_on : base_lost numbered cells (base_in p.part) ≡ false → lost_from numbered cells (p ∷ ps) ≡ lost_from numbered cells ps
  unfolding lost_from
  part_on e = rw (e, lost_from)

pub part_none : (numbered cells : List ℕ) → lost_from numbered cells [] ≡ None
unfolding lost_from
part_none numbered cells = refl

pub word_none : (text numbered cells places : List ℕ) (n : ℕ) → n ≤ 0 → lost_of text numbered cells n places ≡ None
unfolding lost_of
word_none text numbered cells places zero h = refl
word_none text numbered cells places (suc n) h = absurd (omega arith)

-- the same at the i-th of n words
module _ (text numbered cells places : List ℕ) (n i : ℕ) (h : i < n) where
  here : n - i ≡ suc (n - (i + 1))
  here = omega arith

  first : get_or (drop i places) 0 0 ≡ get_or places i 0
  first = get_or-drop i places 0 0 ∙ ap (λ (k : ℕ). get_or places k 0) (add-zero i)

  pub words_on : lost_from numbered cells (parts_at text (operand_of (get_or places i 0))) ≡ None
      → lost_of text numbered cells (n - (i + 1)) (drop (i + 1) places) ≡ lost_of text numbered cells (n - i) (drop i places)
  words_on e =
      ap (lost_of text numbered cells (n - (i + 1))) (sym (drop-drop 1 i places))
      ∙ sym (lost_on text numbered cells (n - (i + 1)) (drop i places) (ap (λ (w : ℕ). lost_from numbered cells (parts_at text (operand_of w))) first ∙ e))
      ∙ ap (λ (k : ℕ). lost_of text numbered cells k (drop i places)) (sym here)

  pub words_stop : (k : Place) → lost_from numbered cells (parts_at text (operand_of (get_or places i 0))) ≡ Some k → Some k ≡ lost_of text numbered cells (n - i) (drop i places)
  words_stop k e =
      sym (lost_stop text numbered cells (n - (i + 1)) (drop i places) k (ap (λ (w : ℕ). lost_from numbered cells (parts_at text (operand_of w))) first ∙ e))
      ∙ ap (λ (k : ℕ). lost_of text numbered cells k (drop i places)) (sym here)
