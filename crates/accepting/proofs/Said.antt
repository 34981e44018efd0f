-- What a declaration of good form says, where rule 10 passes it: all that its row must keep, but for rules 9 and 11 to 13.
use mathlib.Core.Path.{◌≡◌, refl, sym, ap, ◌∙◌}
use mathlib.Core.Bool.{Bool, true, false, ◌&&◌}
use mathlib.Core.List.{List, [], ◌∷◌, ◌++◌, map}
use mathlib.Core.Option.{Option, none, some}
use Prim.Native.Nat.{ℕ, ◌-◌, ◌<◌}
use native.Mathlib.Omega.{arith}
use lib.Dec.{leb, eqb}
use lib.ListN.{length, get_or}
use borrow.Author.Tests.{lt-ltb, le-leb}
use Rattle.ground.specs.Lists.{every, all_of}
use Rattle.ground.specs.declared.Place.{Place}
use Rattle.ground.proofs.Bools.{bool_cases, and_true, and_false, or_right, facts, every_first, every_more, no_facts}
use Rattle.ground.proofs.Counts.{length_mapped}
use Rattle.kinds.specs.Kinds.{kind_at, is_kind}
use Rattle.signs.specs.Pieces.{decoded}
use Rattle.brackets.specs.Parts.{members_at}
use Rattle.brackets.specs.declared.Ref.{Ref}
use Rattle.form.specs.declared.Range.{Range}
use Rattle.brackets.specs.declared.Operand.{Operand}
use Rattle.form.specs.declared.Wiring.{Wiring}
use Rattle.form.specs.declared.Label.{Label}
use Rattle.form.specs.declared.Label.TheVariants as label
use Rattle.form.specs.declared.Payload.{Payload}
use Rattle.form.specs.declared.Payload.TheVariants as payload
use Rattle.form.specs.declared.Decl.{Decl}
use Rattle.form.specs.declared.Decl.TheVariants as decl
use Rattle.netlist.specs.Netlist.{Meta, Cell, operand_width, is_scope}
use Rattle.netlist.specs.Rules.{refers, may_refer, is_member, is_source, any_kind, references, ranges, shape, is_byte, is_trit, unless, runless, operand_sound}
use Rattle.saying.specs.Values.{ref_row, row_run, trits_in, operand_runs, meta, source_of, scope_of, attr_of}
use Rattle.saying.specs.Pieces.{PieceAt, operand_pieces, first_unresolved}
use Rattle.saying.specs.Rules.{Sofar, Said, metadata, pad, cell, cell_of, pieces_of, said_by, Asked, asked_of, misnamed, first_misnamed}
use Rattle.noting.specs.Formed.{OperandIn, WiringIn, DeclIn}
use Rattle.noting.proofs.Passing.{not_false}
use Rattle.wiring.proofs.CellWidths.{operand_wide}
use Rattle.resolving.proofs.Declared.{both_resolved}
use Rattle.accepting.proofs.Bytes.{decoded_bytes, constant_trits}
use Rattle.accepting.proofs.Forms.{PointMeant, LabelMeant, PayloadMeant, DeclMeant, members_given}
use Rattle.accepting.proofs.Operands.{operand_sound_lem, no_runs}

abbrev pub kinds_of : Sofar → List ℕ
kinds_of so = map (λ m. m.kind) so.netlist.metas

-- of metadata
pub record MetaSaid (kinds : List ℕ) (m : Meta) : Type 0 where
  pub shaped : shape m ≡ true
  pub ranged : ranges m ≡ true
  pub refers : references kinds m ≡ true

-- of a cell, with `metas` rows of metadata before it, the widths that its operands are told to have, and its pieces
pub record CellSaid (metas : ℕ) (c : Cell) (a b d : ℕ) (ps : List PieceAt) : Type 0 where
  pub keyword : is_kind c.kind ≡ true
  pub nameless : (kind_at c.kind).named ≡ false → c.name ≡ []
  pub letters : every is_byte c.name ≡ true
  pub referred : leb c.meta metas ≡ true
  pub first : unless (leb 1 (kind_at c.kind).operands) (runless c.a) ≡ true
  pub second : unless (leb 2 (kind_at c.kind).operands) (runless c.b) ≡ true
  pub third : unless (leb 3 (kind_at c.kind).operands) (runless c.c) ≡ true
  pub first_wide : operand_width c.a ≡ a
  pub second_wide : operand_width c.b ≡ b
  pub third_wide : operand_width c.c ≡ d
  pub resolved : (ns ws : List ℕ) → first_unresolved ns ws ps ≡ none
      → (operand_sound ws (map (row_run ns) c.a) ≡ true) × (operand_sound ws (map (row_run ns) c.b) ≡ true) × (operand_sound ws (map (row_run ns) c.c) ≡ true)

abbrev pub SaidSound : Sofar → Said → Type 0
SaidSound so (metadata m) = MetaSaid (kinds_of so) m
SaidSound so (pad i) = every is_byte i.name ≡ true
SaidSound so (cell c a b d ps) = CellSaid (length so.netlist.metas) c a b d ps

-- RULE 10, reference by reference
counted : Option Place → ℕ
counted none = 0
counted (some p) = 1

first_named : (so : Sofar) (q : Asked) (qs : List Asked) → first_misnamed so (q ∷ qs) ≡ none → (misnamed so q ≡ false) × (first_misnamed so qs ≡ none)
unfolding first_misnamed counted
first_named so q qs e = bool_cases (misnamed so q)
    (λ m. let z : ◌≡◌ {A = ℕ} 1 0 = ap counted (rw (m, first_misnamed) at e) in absurd (omega arith))
    (λ m. (m, rw (m, first_misnamed) at e))

module _ (so : Sofar) (p : ℕ → Bool) (r : Ref) (named : misnamed so (record { ref = r; allowed = p }) ≡ false) where
  -- a reference that is written
  ref_refers : r.given ≡ true → refers p (kinds_of so) (ref_row so.meta_numbers r) ≡ true
  ref_refers g = rw g (not_false _ (and_false r.given _ named g))

  ref_may : may_refer p (kinds_of so) (ref_row so.meta_numbers r) ≡ true
  ref_may = bool_cases r.given
      (λ g. or_right (eqb (ref_row so.meta_numbers r) 0) (refers p (kinds_of so) (ref_row so.meta_numbers r)) (ref_refers g))
      (λ g. rw g)

  -- .. names a row of those before
  ref_row_lem : leb (ref_row so.meta_numbers r) (length so.netlist.metas) ≡ true
  ref_row_lem = bool_cases r.given
      (λ g.
      let row = ref_row so.meta_numbers r in
      let a = and_true (leb 1 row) (leb row (length (kinds_of so)) && p (get_or (kinds_of so) (row - 1) 0)) (ref_refers g) in
      let b = and_true (leb row (length (kinds_of so))) (p (get_or (kinds_of so) (row - 1) 0)) a.1 in
      ap (leb row) (sym (length_mapped (λ (m : Meta). m.kind) so.netlist.metas)) ∙ b.0)
      (λ g. rw g (le-leb 0 (length so.netlist.metas) (omega arith)))

members_refer : (so : Sofar) (rs : List Ref) → every (λ (m : Ref). m.given) rs ≡ true → first_misnamed so (map (λ (r : Ref). record { ref = r; allowed = is_member }) rs) ≡ none
    → every (refers is_member (kinds_of so)) (map (ref_row so.meta_numbers) rs) ≡ true
unfolding every
members_refer so [] g e = refl
members_refer so (r ∷ rs) g e =
    let f = every_first (λ (m : Ref). m.given) r rs g in
    let h = first_named so (record { ref = r; allowed = is_member }) (map (λ (r : Ref). record { ref = r; allowed = is_member }) rs) e in
    every_more (refers is_member (kinds_of so)) (ref_row so.meta_numbers r) (map (ref_row so.meta_numbers) rs) (ref_refers so is_member r h.0 f.0) (members_refer so rs f.1 h.1)

-- METADATA without a source range
ranges_of : (kind : ℕ) (name text members bits : List ℕ) (inside source number : ℕ) → every is_byte name ≡ true → every is_byte text ≡ true → every is_trit bits ≡ true → number < 4294967296
    → ranges (meta kind name text members bits inside source number) ≡ true
ranges_of kind name text members bits inside source number a b c d =
    facts _ _ a (facts _ _ b (facts _ _ c (facts _ _ (lt-ltb number 4294967296 d) (facts _ _ refl (facts _ _ refl (facts _ _ refl (facts _ _ refl no_facts)))))))

no_bytes : every is_byte [] ≡ true
unfolding every
no_bytes = refl

no_trits : every is_trit [] ≡ true
unfolding every
no_trits = refl

no_members : (kinds : List ℕ) → every (refers is_member kinds) [] ≡ true
unfolding every
no_members kinds = refl

scope_refers : (kinds : List ℕ) (inside source : ℕ) → may_refer is_scope kinds inside ≡ true → may_refer is_source kinds source ≡ true
    → all_of (every (refers is_member kinds) [] ∷ may_refer is_scope kinds inside ∷ may_refer is_source kinds source ∷ []) ≡ true
scope_refers kinds inside source a b = facts _ _ (no_members kinds) (facts _ _ a (facts _ _ b no_facts))

-- .. and with one
source_ranges : (file : List ℕ) (r : Range) → every is_byte file ≡ true → PointMeant r.first → PointMeant r.last → ranges (source_of file r) ≡ true
source_ranges file r h p q =
    facts _ _ h (facts _ _ no_bytes (facts _ _ no_trits (facts _ _ refl
    (facts _ _ (lt-ltb r.first.line 4294967296 p.line) (facts _ _ (lt-ltb r.first.column 4294967296 p.column)
    (facts _ _ (lt-ltb r.last.line 4294967296 q.line) (facts _ _ (lt-ltb r.last.column 4294967296 q.column) no_facts)))))))

module _ (text : List ℕ) (sound : every is_byte text ≡ true) (so : Sofar) where
  scope_said : (l : Label) (i s : Ref) → LabelMeant l → misnamed so (record { ref = i; allowed = is_scope }) ≡ false → misnamed so (record { ref = s; allowed = is_source }) ≡ false
      → MetaSaid (kinds_of so) (scope_of text l (ref_row so.meta_numbers i) (ref_row so.meta_numbers s))
  unfolding all_of
  scope_said (label.Named n) i s m a b = record {
    shaped = refl;
    ranged = ranges_of 3 (decoded text n.from) [] [] [] (ref_row so.meta_numbers i) (ref_row so.meta_numbers s) 0 (decoded_bytes text sound n.from) no_bytes no_trits (omega arith);
    refers = scope_refers (kinds_of so) (ref_row so.meta_numbers i) (ref_row so.meta_numbers s) (ref_may so is_scope i a) (ref_may so is_source s b);
  }
  scope_said (label.Indexed n) i s m a b = record {
    shaped = refl;
    ranged = ranges_of 4 [] [] [] [] (ref_row so.meta_numbers i) (ref_row so.meta_numbers s) n no_bytes no_bytes no_trits m;
    refers = scope_refers (kinds_of so) (ref_row so.meta_numbers i) (ref_row so.meta_numbers s) (ref_may so is_scope i a) (ref_may so is_source s b);
  }

  attr_said : (n : ℕ) (p : Payload) → PayloadMeant text p → MetaSaid (kinds_of so) (attr_of text (decoded text n) p)
  unfolding all_of every
  attr_said n (payload.Bits s) m = record {
    shaped = refl;
    ranged = ranges_of 6 (decoded text n) [] [] (trits_in text s) 0 0 0 (decoded_bytes text sound n) no_bytes (constant_trits text s.from s.size sound m) (omega arith);
    refers = refl;
  }
  attr_said n (payload.Integer i) m = record { shaped = refl; ranged = ranges_of 7 (decoded text n) [] [] [] 0 0 i (decoded_bytes text sound n) no_bytes no_trits m; refers = refl }
  attr_said n (payload.Text s) m = record {
    shaped = refl;
    ranged = ranges_of 8 (decoded text n) (decoded text s.from) [] [] 0 0 0 (decoded_bytes text sound n) (decoded_bytes text sound s.from) no_trits (omega arith);
    refers = refl;
  }

  source_said : (n : ℕ) (r : Range) → PointMeant r.first → PointMeant r.last → MetaSaid (kinds_of so) (source_of (decoded text n) r)
  unfolding all_of every
  source_said n r p q = record {
    shaped = refl;
    ranged = source_ranges (decoded text n) r (decoded_bytes text sound n) p q;
    refers = refl;
  }

  -- CELLS
  unless_runs : (has : Bool) (o : Operand) → OperandIn text has o → unless has (runless (operand_runs text o)) ≡ true
  unless_runs true o h = refl
  unless_runs false o h = rw (no_runs text o h.given)

  cell_said : (w : Wiring) → WiringIn text w → is_kind w.kind ≡ true → misnamed so (record { ref = w.meta; allowed = any_kind }) ≡ false
      → CellSaid (length so.netlist.metas) (cell_of text so w) w.a.width w.b.width w.c.width (pieces_of text w)
  cell_said w i k m = record {
    keyword = k;
    nameless = λ e. rw e;
    letters = bool_cases (kind_at w.kind).named (λ e. rw e (decoded_bytes text sound w.name.from)) (λ e. rw e no_bytes);
    referred = ref_row_lem so any_kind w.meta m;
    first = unless_runs _ w.a i.a;
    second = unless_runs _ w.b i.b;
    third = unless_runs _ w.c i.c;
    first_wide = operand_wide text w.a ∙ sym i.a.width;
    second_wide = operand_wide text w.b ∙ sym i.b.width;
    third_wide = operand_wide text w.c ∙ sym i.c.width;
    resolved = λ ns ws e.
        let p = both_resolved ns ws text (operand_pieces text w.a) (operand_pieces text w.b ++ operand_pieces text w.c) e in
        let q = both_resolved ns ws text (operand_pieces text w.b) (operand_pieces text w.c) p.1 in
        (operand_sound_lem ns ws text sound w.a p.0, operand_sound_lem ns ws text sound w.b q.0, operand_sound_lem ns ws text sound w.c q.1);
  }

  -- EVERY DECLARATION
  pub said_sound : (d : Decl) → DeclIn text d → DeclMeant text d → first_misnamed so (asked_of text d) ≡ none → SaidSound so (said_by text so d)
  unfolding said_by all_of every
  said_sound (decl.Set s) i m e = record {
    shaped = refl;
    ranged = refl;
    refers = rw (members_refer so (members_at text s.at) (members_given text s.at) e, all_of);
  }
  said_sound (decl.Source f r) i m e = source_said f.from r m.0 m.1
  said_sound (decl.Scope l n s) i m e =
      let p = first_named so _ _ e in
      let q = first_named so _ _ p.1 in
      scope_said l n s m p.0 q.0
  said_sound (decl.Ident s n) i m e = record {
    shaped = refl;
    ranged = ranges_of 5 (decoded text s.from) [] [] [] (ref_row so.meta_numbers n) 0 0 (decoded_bytes text sound s.from) no_bytes no_trits (omega arith);
    refers = rw (ref_refers so is_scope n (first_named so _ _ e).0 m, all_of);
  }
  said_sound (decl.Attr s p) i m e = attr_said s.from p m
  said_sound (decl.Io s w) i m e = decoded_bytes text sound s.from
  said_sound (decl.Cell w) i m e = cell_said w i m (first_named so _ _ e).0
