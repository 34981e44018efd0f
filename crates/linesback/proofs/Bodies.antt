-- The bodies of metadata behind its keyword, each kind by itself: its form, and what it says.
use Prim.Native.Nat.{ℕ, suc, ◌+◌, ◌≤◌, ◌<◌}
use mathlib.Core.Path.{◌≡◌, refl, ap}
use mathlib.Core.Bool.{true, false, ◌&&◌}
use mathlib.Core.List.{List, ◌∷◌}
use mathlib.Core.Option.{none}
use native.Mathlib.Omega.{arith}
use lib.Dec.{leb, eqb}
use lib.ListN.{drop, length}
use borrow.Author.Tests.{ltb-true, leb-true}
use Rattle.ground.specs.Lists.{every}
use Rattle.ground.specs.Text.{bytes, same}
use Rattle.ground.proofs.Bools.{fact, and_true, or_right}
use Rattle.signs.specs.Bytes.{class_of, class_from}
use Rattle.lexis.specs.declared.Token.{Token}
use Rattle.form.specs.Forms.{set_form, source_form, scope_form, ident_form, attr_form, is_label, label_of, is_payload, payload_of}
use Rattle.form.specs.declared.Decl.{Decl}
use Rattle.netlist.specs.Netlist.{Meta, set_meta, source_meta, scope_meta, indexed_meta, ident_meta, bits_meta, integer_meta, string_meta, is_scope}
use Rattle.netlist.specs.Rules.{meta_sound, shape, ranges, references, may_refer, refers, is_byte, is_trit, is_source}
use Rattle.saying.specs.Rules.{Sofar, metadata, said_by, asked_of, first_misnamed}
use Rattle.saying.specs.Values.{scope_of, attr_of}
use Rattle.writing.specs.Words as words
use Rattle.lines.specs.Lines.{point, scope_line}
use Rattle.fronts.specs.Fronts.{Rowed}
use Rattle.tokensback.proofs.Standing.{Stands, Takes}
use Rattle.tokensback.proofs.Tokens.{behind_space, spaced, constant_back, constant_meant, word_letters}
use Rattle.linesback.proofs.Heads.{Formed, ended_back, word_behind}
use Rattle.linesback.proofs.Shapes.{set_is, source_is, scope_is, indexed_is, ident_is, bits_is, integer_is, string_is}
use Rattle.linesback.proofs.Links.{row_small, written_to, ref_says, Links, link_back, options_end, source_back, inside_back}
use Rattle.linesback.proofs.Members.{members_back, members_few}
use Rattle.linesback.proofs.Points.{string_behind, meant_behind, hash_behind, point_behind}

-- behind metadata of these kinds the declaration says m, and its references are in order
abbrev pub MetaSays : List ℕ → List ℕ → Meta → Decl → Type 0
MetaSays text kinds m d = (so : Sofar) → Rowed so kinds → (said_by text so d ≡ metadata m) × (first_misnamed so (asked_of text d) ≡ none)

-- what is asked of the row
module _ (kinds : List ℕ) (m : Meta) (p : meta_sound kinds m ≡ true) where
  shaped : shape m ≡ true
  shaped = fact _ p 0

  ranged : ranges m ≡ true
  ranged = fact _ p 1

  named : every is_byte m.name ≡ true
  named = fact _ ranged 0

  number_small : m.number < 4294967296
  number_small = ltb-true m.number 4294967296 (fact _ ranged 3)

module _ (text : List ℕ) (k : ℕ) (t : Token) (s kinds : List ℕ) (m : Meta) (p : meta_sound kinds m ≡ true) where
  -- `source "file" (#l #c) (#l #c)`
  pub source_body : m.kind ≡ source_meta → drop k text ≡ 32 ∷ words.quoted m.name (32 ∷ point m.line m.column (32 ∷ point m.end_line m.end_column (10 ∷ s)))
      → Formed text t (MetaSays text kinds m) s (source_form text t k)
  unfolding source_form said_by first_misnamed
  source_body e h =
      let r = ranged kinds m p in
      let n = named kinds m p in
      let f = string_behind text k m.name n h in
      let a = point_behind text f.end m.line m.column (32 ∷ point m.end_line m.end_column (10 ∷ s)) (ltb-true m.line 4294967296 (fact _ r 4)) (ltb-true m.column 4294967296 (fact _ r 5)) f.rest in
      let b = point_behind text a.end m.end_line m.end_column (10 ∷ s) (ltb-true m.end_line 4294967296 (fact _ r 6)) (ltb-true m.end_column 4294967296 (fact _ r 7)) a.rest in
      rw (f.outside, a.is, b.is) (ended_back _ b.end b.rest
      (λ so w. (rw (meant_behind text k m.name _ n h) (ap metadata (source_is m (shaped kinds m p) e)), refl)))

  -- `attr "name"` and the token q of a payload
  attr_body : (q : Token) (body : List ℕ) (h : drop k text ≡ 32 ∷ words.quoted m.name body) → Takes text (string_behind text k m.name (named kinds m p) h).end q (10 ∷ s) → is_payload q ≡ true
      → attr_of text m.name (payload_of q) ≡ m → Formed text t (MetaSays text kinds m) s (attr_form text t k)
  unfolding attr_form said_by first_misnamed
  attr_body q body h c i e =
      rw ((string_behind text k m.name (named kinds m p) h).outside, c.outside, i) (ended_back _ c.end c.rest
      (λ so w. (rw (meant_behind text k m.name body (named kinds m p) h) (ap metadata e), refl)))

  -- .. a constant
  pub bits_body : m.kind ≡ bits_meta → drop k text ≡ 32 ∷ words.quoted m.name (32 ∷ words.trits m.bits (10 ∷ s)) → Formed text t (MetaSays text kinds m) s (attr_form text t k)
  bits_body e h =
      let f = string_behind text k m.name (named kinds m p) h in
      let q : every is_trit m.bits ≡ true = fact _ (ranged kinds m p) 2 in
      let w : leb 1 (length m.bits) && leb (length m.bits) 256 ≡ true = rw e at (fact _ p 4) in
      let l = leb-true 1 (length m.bits) (and_true (leb 1 (length m.bits)) (leb (length m.bits) 256) w).0 in
      let c = spaced text f.end f.rest (constant_back text (f.end + 1) m.bits l q refl (behind_space text f.end f.rest)) in
      attr_body _ _ h c refl (rw (constant_meant text (f.end + 1) m.bits _ q (behind_space text f.end f.rest).rest) (bits_is m (shaped kinds m p) e))

  -- .. an integer
  pub integer_body : m.kind ≡ integer_meta → drop k text ≡ 32 ∷ words.quoted m.name (32 ∷ words.hash m.number (10 ∷ s)) → Formed text t (MetaSays text kinds m) s (attr_form text t k)
  integer_body e h =
      let f = string_behind text k m.name (named kinds m p) h in
      attr_body _ _ h (hash_behind text f.end m.number (number_small kinds m p) refl f.rest) refl (integer_is m (shaped kinds m p) e)

  -- .. a string
  pub string_body : m.kind ≡ string_meta → drop k text ≡ 32 ∷ words.quoted m.name (32 ∷ words.quoted m.text (10 ∷ s)) → Formed text t (MetaSays text kinds m) s (attr_form text t k)
  string_body e h =
      let f = string_behind text k m.name (named kinds m p) h in
      let q : every is_byte m.text ≡ true = fact _ (ranged kinds m p) 1 in
      attr_body _ _ h (string_behind text f.end m.text q f.rest) refl (rw (meant_behind text f.end m.text _ q f.rest) (string_is m (shaped kinds m p) e))

  module _ (small : length kinds ≤ 65535) where
    -- `ident "name" in=!m`
    pub ident_body : m.kind ≡ ident_meta → drop k text ≡ 32 ∷ words.quoted m.name (words.text " in=" (words.reference m.inside (10 ∷ s)))
        → Formed text t (MetaSays text kinds m) s (ident_form text t k)
    unfolding ident_form said_by first_misnamed words.text bytes same every class_of class_from
    ident_body e h =
        let n = named kinds m p in
        let r : refers is_scope kinds m.inside ≡ true = rw e at (fact _ (fact _ p 2) 1) in
        let g : may_refer is_scope kinds m.inside ≡ true = or_right (eqb m.inside 0) _ r in
        let f = string_behind text k m.name n h in
        let w = word_behind text f.end (bytes "in") (omega arith) refl refl f.rest in
        let b = word_letters text (f.end + 1) (bytes "in") _ (behind_space text f.end f.rest).rest in
        let l : Links text w.end m.inside (10 ∷ s) = link_back m.inside (row_small is_scope kinds m.inside g small) refl w.rest in
        rw (f.outside, w.outside, b, l.is) (ended_back _ l.end l.rest (λ so w.
        let i = ref_says is_scope m.inside w g (written_to l.link is_scope kinds m.inside r l.given l.index) in
        (rw (meant_behind text k m.name _ n h, i.0) (ap metadata (ident_is m (shaped kinds m p) e)), rw (i.1, first_misnamed))))

    -- `scope`, its name or its index as the token q, and its options
    scope_body : (q : Token) → Takes text k q (scope_line m (10 ∷ s)) → is_label q ≡ true → eqb m.kind ident_meta ≡ false → scope_of text (label_of q) m.inside m.source ≡ m
        → Formed text t (MetaSays text kinds m) s (scope_form text t k)
    unfolding scope_form said_by first_misnamed
    scope_body q c i n e =
        let a : may_refer is_scope kinds m.inside ≡ true = rw n at (fact _ (fact _ p 2) 1) in
        let b : may_refer is_source kinds m.source ≡ true = fact _ (fact _ p 2) 2 in
        let f = inside_back text c.end m.inside m.source s (row_small is_scope kinds m.inside a small) c.rest in
        let g = source_back text f.end m.source s f.rest (row_small is_source kinds m.source b small) in
        rw (c.outside, i, f.is, g.is) (ended_back _ g.end g.rest (λ so w.
        let x = ref_says is_scope m.inside w a f.to in
        let y = ref_says is_source m.source w b g.to in
        (rw (x.0, y.0) (ap metadata e), rw (x.1, first_misnamed, y.1, first_misnamed))))

    -- .. its name
    pub scoped_body : m.kind ≡ scope_meta → drop k text ≡ 32 ∷ words.quoted m.name (scope_line m (10 ∷ s)) → Formed text t (MetaSays text kinds m) s (scope_form text t k)
    scoped_body e h =
        let n = named kinds m p in
        scope_body _ (string_behind text k m.name n h) refl (rw e) (rw (meant_behind text k m.name _ n h) (scope_is m (shaped kinds m p) e))

    -- .. its index
    pub indexed_body : m.kind ≡ indexed_meta → drop k text ≡ 32 ∷ words.hash m.number (scope_line m (10 ∷ s)) → Formed text t (MetaSays text kinds m) s (scope_form text t k)
    indexed_body e h = scope_body _ (hash_behind text k m.number (number_small kinds m p) (options_end m.inside m.source s) h) refl (rw e) (indexed_is m (shaped kinds m p) e)

    -- the members of a set behind its `{`
    pub set_body : m.kind ≡ set_meta → Stands text k (words.references m.members (125 ∷ 10 ∷ s)) → Formed text t (MetaSays text kinds m) s (set_form text t k)
    unfolding set_form said_by
    set_body e h =
        let r = members_back text kinds small m.members (fact _ (fact _ p 2) 0) h in
        let f = members_few text k m.members _ h.rest in
        let l : length m.members < suc (length text) = omega arith in
        rw (r.closed (suc (length text)) 0 l) (ended_back _ r.end r.rest (λ so w.
        (rw (r.members (suc (length text)) l, r.rows so w) (ap metadata (set_is m (shaped kinds m p) e)), rw (r.members (suc (length text)) l) (r.named so w))))
