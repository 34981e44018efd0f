-- What a row of metadata says, how the rules come out for it, and how the members of a set are written.
use Rattle.std.specs.Prelude.{Ok, Err, Some, None}
use mathlib.Core.Path.{◌≡◌, refl, sym, ap, ap₂, subst, ◌∙◌}
use mathlib.Core.Bool.{Bool, true, false, not}
use mathlib.Core.List.{List, [], ◌∷◌, ◌++◌, map}
use Prim.Native.Nat.{ℕ, zero, suc, ◌+◌, ◌*◌, ◌<◌, ◌≤◌}
use native.Mathlib.Omega.{arith}
use native.Mathlib.Numerals.{add-one}
use lib.Dec.{ltb, eqb}
use lib.ListN.{length, set}
use lib.Seq.{sets}
use borrow.Author.Tests.{ltb-true, ltb-false, eqb-true, eqb-false, eq-eqb, ne_eqb}
use Rattle.ground.specs.Choice.{pick}
use Rattle.ground.specs.Refusals.{refusal}
use Rattle.ground.specs.Lists.{every}
use Rattle.ground.specs.Regions.{part}
use Rattle.ground.proofs.Bools.{bool_cases, every_first}
use Rattle.ground.proofs.Regions.{part_length}
use Rattle.ground.proofs.Writes.{sets_append}
use Rattle.ground.specs.declared.Place.{Place}
use Rattle.ground.proofs.Counts.{length_mapped}
use Rattle.signs.specs.Bytes.{trit_of}
use Rattle.signs.specs.Pieces.{decoded}
use Rattle.brackets.specs.Parts.{members_at, members_from}
use Rattle.brackets.specs.Walks.{tour_at, tour_step, members_left, members_on}
use Rattle.brackets.proofs.Steps.{tour_starts, tour_goes}
use Rattle.brackets.specs.declared.Str.{Str}
use Rattle.brackets.specs.declared.Ref.{Ref}
use Rattle.brackets.specs.declared.Tour.{Tour}
use Rattle.brackets.specs.declared.Members.{Members}
use Rattle.form.specs.declared.Label.{Label}
use Rattle.form.specs.declared.Label.TheVariants as label
use Rattle.form.specs.declared.Payload.{Payload}
use Rattle.form.specs.declared.Payload.TheVariants as payload
use Rattle.form.specs.declared.Decl.{Decl}
use Rattle.form.specs.declared.Decl.TheVariants as decl
use Rattle.netlist.specs.Netlist.{Meta, Netlist}
use Rattle.netlist.specs.Rules.{complete, attr_width, roomy}
use Rattle.saying.specs.Values.{ref_row, string_in, trits_in}
use Rattle.saying.specs.Notes.{meta_note, spelled, Spells}
use Rattle.asking.proofs.TokenLaws.{members_small}
use Rattle.noting.specs.Formed.{StrIn, DeclIn}
use Rattle.noting.specs.Noted.{Tallied}
use Rattle.noting.specs.Rulings.{ruling_of, meta_more}
use Rattle.metas.specs.MetaRows.{is_metadata, meta_said, spot_of, row_for, meta_words, RowSays, row_complete, trits_fit, meta_limits, members_said, rows_of, wrote, rows_with}
use Rattle.noting.specs.declared.Tally.{Tally}
use Rattle.metas.specs.declared.MetaRow.{MetaRow}
use Rattle.noting.proofs.Flat.{length_put}
use Rattle.noting.proofs.Limits.{meta_fits, meta_full}

-- RULES 11 TO 13
module _ (text : List ℕ) (r : MetaRow) (m : Meta) (s : RowSays text r m) where
  pub complete_said : row_complete r ≡ complete m
  complete_said = rw (s.kind, s.name, s.line, s.column, s.end_line, s.end_column, s.members)

  pub width_said : trits_fit r.kind r.trits ≡ attr_width m
  width_said = rw (s.kind, s.trits)

  pub meta_last_limit : (N : Netlist) (n : Tally) → Tallied N n → n.metas < 512 → r.name.size ≤ 255 → r.text.size ≤ 255 → n.members + r.members ≤ 1024
      → ltb 16384 (n.strings + r.name.size + r.text.size) ≡ not (roomy (meta_more N m))
  meta_last_limit N n t a b c d =
      let f = s.name in
      let g = s.second in
      let k = s.members in
      bool_cases (ltb 16384 (n.strings + r.name.size + r.text.size))
      (λ e. let h : 16384 < n.strings + r.name.size + r.text.size = ltb-true _ _ e in rw (e, meta_full N m n t (omega arith)))
      (λ e. let h : n.strings + r.name.size + r.text.size ≤ 16384 = ltb-false _ _ e in rw (e, meta_fits N m n t a (omega arith) (omega arith) (omega arith) (omega arith)))

module _ (N : Netlist) (m : Meta) (place : Place) where
  pub meta_incomplete : complete m ≡ false → Err (refusal 11 place) ≡ ruling_of (meta_limits N m place)
  meta_incomplete e = rw e

  pub meta_misfit : complete m ≡ true → attr_width m ≡ false → Err (refusal 12 place) ≡ ruling_of (meta_limits N m place)
  meta_misfit e f = rw (e, f)

  pub meta_cramps : complete m ≡ true → attr_width m ≡ true → not (roomy (meta_more N m)) ≡ true → Err (refusal 13 place) ≡ ruling_of (meta_limits N m place)
  meta_cramps e f g = rw (e, f, g)

  pub meta_passes : complete m ≡ true → attr_width m ≡ true → not (roomy (meta_more N m)) ≡ false → Ok tt ≡ ruling_of (meta_limits N m place)
  meta_passes e f g = rw (e, f, g)

-- FOUR TIMES FOUR WORDS
pub four_fours : (l a b c d : List ℕ) (k : ℕ) (p q r s : List ℕ) → length p ≡ 4 → length q ≡ 4 → length r ≡ 4
    → a ≡ sets l k p → b ≡ sets a (k + 4) q → c ≡ sets b (k + 8) r → d ≡ sets c (k + 12) s → d ≡ sets l k (p ++ (q ++ (r ++ s)))
four_fours l a b c d k p q r s x y z e f g h =
    let i : k + length p ≡ k + 4 = omega arith in
    let j : k + 4 + length q ≡ k + 8 = omega arith in
    let o : k + 8 + length r ≡ k + 12 = omega arith in
    sym (sets_append l k p (q ++ (r ++ s)) ∙ rw (i, ← e)
    (sets_append a (k + 4) q (r ++ s) ∙ rw (j, ← f)
    (sets_append b (k + 8) r s ∙ rw (o, ← g) (sym h))))

-- THE MEMBERS OF A SET, one after the other
pub tour_whole : (text : List ℕ) (k : ℕ) (w : Tour) → w ≡ tour_at text k → members_left text w ≡ members_at text k
tour_whole text k w e = ap (members_left text) e ∙ tour_starts text k

module _ (text : List ℕ) (w : Tour) where
  module _ (m : Ref) (next : Tour) (e : tour_step text w ≡ Some (m, next)) where
    member_next : members_left text w ≡ m ∷ members_left text next
    member_next = tour_goes text w ∙ ap (members_on text) e

    pub member_small : m.index < 65536
    member_small =
        let h : every (λ (r : Ref). ltb r.index 65536) (members_left text w) ≡ true = members_small w.left text w.next.next.at in
        ltb-true m.index 65536 (every_first (λ (r : Ref). ltb r.index 65536) m (members_left text next) (rw member_next at h)).0

    pub member_room : (to k : ℕ) → to + length (members_left text w) ≤ k → (to < k) × (to + 1 + length (members_left text next) ≤ k)
    member_room to k h = let l : length (members_left text w) ≡ suc (length (members_left text next)) = ap length member_next in (omega arith, omega arith)

    pub member_more : (ns pool : List ℕ) (to row : ℕ) → row ≡ ref_row ns m → sets (set pool to row) (to + 1) (rows_of ns (members_left text next)) ≡ sets pool to (rows_of ns (members_left text w))
    member_more ns pool to row f = rw (member_next, f, add-one)

  pub members_done : tour_step text w ≡ None → (ns pool : List ℕ) (to : ℕ) → pool ≡ sets pool to (rows_of ns (members_left text w))
  members_done e ns pool to = rw (tour_goes text w ∙ ap (members_on text) e)

-- THE ROW OF A DECLARATION notes what the declaration says
spot_spells : (text : List ℕ) (s : Str) → StrIn text s → Spells text (spot_of s).at (string_in text s)
spot_spells text s h = record {
  is = bool_cases (eqb s.size 0)
      (λ e. let z : length (decoded text s.from) ≡ 0 = sym h.size ∙ eqb-true _ _ e in rw (eq-eqb (length (decoded text s.from)) 0 z) (none_left (decoded text s.from) z))
      (λ e. let n : eqb (length (decoded text s.from)) 0 ≡ false = ap (λ (k : ℕ). eqb k 0) (sym h.size) ∙ e in rw (n, e));
}
  where
    none_left : (l : List ℕ) → length l ≡ 0 → l ≡ []
    none_left [] e = refl
    none_left (x ∷ l) e = absurd (omega arith)

no_spells : (text : List ℕ) → Spells text 0 []
no_spells text = record { is = refl }

trits_long : (text : List ℕ) (s : Str) → s.from + s.size ≤ length text → s.size ≡ length (trits_in text s)
trits_long text s h = sym (length_mapped trit_of (part s.from s.size text) ∙ part_length s.from s.size text h)

pub row_says : (text ns : List ℕ) (d : Decl) → is_metadata d ≡ true → DeclIn text d → RowSays text (row_for ns d) (meta_said text ns d)
unfolding meta_note
row_says text ns (decl.Set m) e h =
    let n : m.count ≡ length (map (ref_row ns) (members_at text m.at)) = h ∙ sym (length_mapped (ref_row ns) (members_at text m.at)) in
    record { words = rw n; kind = refl; name = refl; second = refl; members = n; trits = refl; line = refl; column = refl; end_line = refl; end_column = refl; name_there = no_spells text; text_there = no_spells text }
row_says text ns (decl.Source f r) e h =
    record { words = rw h.size; kind = refl; name = h.size; second = refl; members = refl; trits = refl; line = refl; column = refl; end_line = refl; end_column = refl; name_there = spot_spells text f h; text_there = no_spells text }
row_says text ns (decl.Scope (label.Named s) i r) e h =
    record { words = rw h.0.size; kind = refl; name = h.0.size; second = refl; members = refl; trits = refl; line = refl; column = refl; end_line = refl; end_column = refl; name_there = spot_spells text s h.0; text_there = no_spells text }
row_says text ns (decl.Scope (label.Indexed n) i r) e h =
    record { words = refl; kind = refl; name = refl; second = refl; members = refl; trits = refl; line = refl; column = refl; end_line = refl; end_column = refl; name_there = no_spells text; text_there = no_spells text }
row_says text ns (decl.Ident n i) e h =
    record { words = rw h.0.size; kind = refl; name = h.0.size; second = refl; members = refl; trits = refl; line = refl; column = refl; end_line = refl; end_column = refl; name_there = spot_spells text n h.0; text_there = no_spells text }
row_says text ns (decl.Attr n (payload.Bits s)) e h =
    let b = trits_long text s h.1.inside in
    record { words = ap₂ (λ (j k : ℕ). 6 ∷ (spot_of n).at ∷ j ∷ 0 ∷ 0 ∷ 0 ∷ 0 ∷ 0 ∷ k ∷ 0 ∷ 0 ∷ 0 ∷ 0 ∷ 0 ∷ 0 ∷ 0 ∷ []) h.0.size b; kind = refl; name = h.0.size; second = refl; members = refl; trits = b; line = refl; column = refl; end_line = refl; end_column = refl; name_there = spot_spells text n h.0; text_there = no_spells text }
row_says text ns (decl.Attr n (payload.Integer i)) e h =
    record { words = rw h.0.size; kind = refl; name = h.0.size; second = refl; members = refl; trits = refl; line = refl; column = refl; end_line = refl; end_column = refl; name_there = spot_spells text n h.0; text_there = no_spells text }
row_says text ns (decl.Attr n (payload.Text s)) e h =
    record { words = rw (h.0.size, h.1.size); kind = refl; name = h.0.size; second = h.1.size; members = refl; trits = refl; line = refl; column = refl; end_line = refl; end_column = refl; name_there = spot_spells text n h.0; text_there = spot_spells text s h.1 }
row_says text ns (decl.Io n w) e h = let z : ◌≡◌ {A = ℕ} 0 1 = cc in absurd (omega arith)
row_says text ns (decl.Cell w) e h = let z : ◌≡◌ {A = ℕ} 0 1 = cc in absurd (omega arith)

pub set_room : (text : List ℕ) (at k : ℕ) (d : Decl) (m : Members) → d ≡ decl.Set m → ((ns : List ℕ) → at + length (members_said text ns d) ≤ k) → at + length (members_at text m.at) ≤ k
set_room text at k d m e h =
    let r : at + length (rows_of [] (members_at text m.at)) ≤ k = subst (λ (d : Decl). at + length (members_said text [] d) ≤ k) e (h []) in
    omega (arith, length_mapped (ref_row []) (members_at text m.at))

pub trits_room : (text : List ℕ) (s : Str) (at k : ℕ) → s.from + s.size ≤ length text → at + length (trits_in text s) ≤ k → at + s.size ≤ k
trits_room text s at k h r = omega (arith, trits_long text s h)

-- the members written, then the row
pub rows_with_lem : (rows p q members : List ℕ) (n : Tally) (r : MetaRow) → p ≡ sets (part 8195 1024 rows) n.members members
    → q ≡ sets (part 3 8192 (wrote 8195 1024 rows p)) (n.metas * 16) (meta_words r) → wrote 3 8192 (wrote 8195 1024 rows p) q ≡ rows_with rows n members r
rows_with_lem rows p q members n r e f =
    ap (wrote 3 8192 (wrote 8195 1024 rows p)) f
    ∙ ap (λ (x : List ℕ). wrote 3 8192 (wrote 8195 1024 rows x) (sets (part 3 8192 (wrote 8195 1024 rows x)) (n.metas * 16) (meta_words r))) e

-- a region written over leaves the slice as long as it was
pub wrote_long : (a n : ℕ) (l : List ℕ) {new old : List ℕ} → new ≡ old → length old ≡ n → a + n ≤ length l → length (wrote a n l new) ≡ length l
wrote_long a n l {new} e f h = length_put a n l new h (ap length e ∙ f)
