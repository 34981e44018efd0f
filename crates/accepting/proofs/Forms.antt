-- What a declaration that the form takes means: numbers of 32 bits, constants of `0 1 X`, a scope for every ident, a keyword of the
-- table. What its strings, indices and widths are stands in noting/proofs/Forming.
use Rattle.form.specs.Form.{Form}
use Rattle.lexis.specs.Took.{Took, after}
use Rattle.std.specs.Prelude.{Ok, Err, Some, None}
use mathlib.Core.Path.{◌≡◌, refl, subst}
use mathlib.Core.Bool.{Bool, true, false}
use mathlib.Core.List.{List, [], ◌∷◌}
use Prim.Native.Nat.{ℕ, zero, suc, ◌+◌, ◌<◌, ◌≤◌}
use Prim.Native.String.{String}
use native.Mathlib.Omega.{arith}
use lib.Dec.{leb, eqb}
use lib.ListN.{length}
use borrow.Author.Tests.{eqb-false, le-leb}
use Rattle.ground.specs.Choice.{pick}
use Rattle.ground.specs.Lists.{every}
use Rattle.ground.specs.Regions.{part}
use Rattle.ground.specs.Text.{bytes, same}
use Rattle.ground.proofs.Bools.{bool_cases, never_both}
use Rattle.kinds.specs.Kinds.{kind_at, is_kind, keywords}
use Rattle.kinds.proofs.Widths.{picked}
use Rattle.signs.specs.Bytes.{is_constant}
use Rattle.lexis.specs.Tokens.{token_at, inside_at, line_end, text_end, word, constant, number, meta, io, string}
use Rattle.lexis.specs.declared.Reader.{Reader}
use Rattle.lexis.specs.declared.Token.{Token}
use Rattle.brackets.specs.Words.{is_sort, is_mark, is_word, letters, numbered, kind_of}
use Rattle.brackets.specs.Parts.{str, next_member, members_from, members_at, set_at}
use Rattle.form.specs.Forms.{only, mark_at, ended, set_form, closed_point, point_at, source_form, link_of, link_from, link_at, option_at, is_label, label_of, scope_form, ident_form, is_payload, payload_of, attr_form, meta_form, io_form, operand_if, meta_if, wiring_form, named_form, cell_form, body_form, is_opening, open_form, form_at}
use Rattle.brackets.specs.declared.Str.{Str}
use Rattle.brackets.specs.declared.Ref.{Ref}
use Rattle.brackets.specs.declared.Operand.{Operand}
use Rattle.form.specs.declared.Point.{Point}
use Rattle.form.specs.declared.Label.{Label}
use Rattle.form.specs.declared.Label.TheVariants as label
use Rattle.form.specs.declared.Payload.{Payload}
use Rattle.form.specs.declared.Payload.TheVariants as payload
use Rattle.form.specs.declared.Decl.{Decl}
use Rattle.form.specs.declared.Decl.TheVariants as decl
use Rattle.form.specs.declared.Declared.{Declared}
use Rattle.saying.proofs.Tokens.{Nothing}
use Rattle.accepting.proofs.Tokens.{MeantToken, MeantStep, token_meant, inside_meant}

pub record PointMeant (p : Point) : Type 0 where
  pub line : p.line < 4294967296
  pub column : p.column < 4294967296

abbrev pub LabelMeant : Label → Type 0
LabelMeant (label.Named s) = Nothing
LabelMeant (label.Indexed n) = n < 4294967296

abbrev pub PayloadMeant : List ℕ → Payload → Type 0
PayloadMeant text (payload.Bits s) = every is_constant (part s.from s.size text) ≡ true
PayloadMeant text (payload.Integer n) = n < 4294967296
PayloadMeant text (payload.Text s) = Nothing

abbrev pub DeclMeant : List ℕ → Decl → Type 0
DeclMeant text (decl.Set m) = Nothing
DeclMeant text (decl.Source f r) = PointMeant r.first × PointMeant r.last
DeclMeant text (decl.Scope l i s) = LabelMeant l
DeclMeant text (decl.Ident n i) = i.given ≡ true
DeclMeant text (decl.Attr n p) = PayloadMeant text p
DeclMeant text (decl.Io n w) = Nothing
DeclMeant text (decl.Cell w) = is_kind w.kind ≡ true

abbrev MeantForm : List ℕ → Form → Type 0
MeantForm text (Ok (Some (d, r))) = DeclMeant text d.decl
MeantForm text (Ok None) = Nothing
MeantForm text (Err g) = Nothing

abbrev MeantPoint : Took Point → Type 0
MeantPoint (Ok (p, r)) = PointMeant p
MeantPoint (Err g) = Nothing

abbrev MeantLink : Took Ref → Type 0
MeantLink (Ok (f, r)) = f.given ≡ true
MeantLink (Err g) = Nothing

-- KEYWORDS: a word of the list is numbered from the first on
numbered_most : (ws : List String) (ls : List ℕ) (n : ℕ) → (numbered ws ls n ≡ 0 → ⊥) → (n ≤ numbered ws ls n) × (numbered ws ls n < n + length ws)
unfolding numbered
numbered_most [] ls n h = absurd (h refl)
numbered_most (w ∷ ws) ls n h = bool_cases (same ls (bytes w))
    (λ e. rw (e, numbered) (omega arith, omega arith))
    (λ e. let r = numbered_most ws ls (n + 1) (rw (e, numbered) at h) in rw (e, numbered) (omega arith, omega arith))

kind_is : (text : List ℕ) (t : Token) → eqb (kind_of text t) 0 ≡ false → is_kind (kind_of text t) ≡ true
kind_is text t h = bool_cases (is_sort word t)
    (λ e. let d : (numbered keywords (letters text t) 1 ≡ 0 → ⊥) = eqb-false (numbered keywords (letters text t) 1) 0 (rw e at h) in
    let r = numbered_most keywords (letters text t) 1 d in
    rw (e, le-leb 1 (numbered keywords (letters text t) 1) r.0, le-leb (numbered keywords (letters text t) 1) 12 (omega arith)))
    (λ e. never_both refl (rw e at h))

module _ (text : List ℕ) where
  either : (b : Bool) (x y : Form) → MeantForm text x → MeantForm text y → MeantForm text (pick b x y)
  either b x y p q = picked (MeantForm text) b x y p q

  -- what follows a token of any sort, and one that passes a test
  after_any : (s : Took Token) (go : Token → ℕ → Form) → MeantStep text s → ((t : Token) (k : ℕ) → MeantToken text t → MeantForm text (go t k)) → MeantForm text (after s go)
  after_any (Ok (t, r)) go h f = f t r.next.at h
  after_any (Err g) go h f = refl

  after_only : (p : Token → Bool) (s : Took Token) (go : Token → ℕ → Form) → MeantStep text s → ((t : Token) (k : ℕ) → p t ≡ true → MeantToken text t → MeantForm text (go t k)) → MeantForm text (after (only p s) go)
  after_only p (Ok (t, r)) go h f = bool_cases (p t) (λ e. rw e (f t r.next.at e h)) (λ e. rw e refl)
  after_only p (Err g) go h f = refl

  after_ref_lem : (l : Took Ref) (go : Ref → ℕ → Form) → ((r : Ref) (k : ℕ) → MeantForm text (go r k)) → MeantForm text (after l go)
  after_ref_lem (Ok (f, r)) go g = g f r.next.at
  after_ref_lem (Err x) go g = refl

  after_link : (l : Took Ref) (go : Ref → ℕ → Form) → MeantLink l → ((r : Ref) (k : ℕ) → r.given ≡ true → MeantForm text (go r k)) → MeantForm text (after l go)
  after_link (Ok (f, r)) go h g = g f r.next.at h
  after_link (Err x) go h g = refl

  after_operand_lem : (o : Took Operand) (go : Operand → ℕ → Form) → ((o : Operand) (k : ℕ) → MeantForm text (go o k)) → MeantForm text (after o go)
  after_operand_lem (Ok (o, r)) go f = f o r.next.at
  after_operand_lem (Err g) go f = refl

  after_point_lem : (o : Took Point) (go : Point → ℕ → Form) → MeantPoint o → ((o : Point) (k : ℕ) → PointMeant o → MeantForm text (go o k)) → MeantForm text (after o go)
  after_point_lem (Ok (o, r)) go h f = f o r.next.at h
  after_point_lem (Err g) go h f = refl

  after_set_lem : (o : Took ℕ) (go : ℕ → ℕ → Form) → ((n k : ℕ) → MeantForm text (go n k)) → MeantForm text (after o go)
  after_set_lem (Ok (n, r)) go f = f n r.next.at
  after_set_lem (Err g) go f = refl

  -- points
  to_point_lem : (p : Token → Bool) (s : Took Token) (go : Token → ℕ → Took Point) → MeantStep text s → ((t : Token) (k : ℕ) → p t ≡ true → MeantToken text t → MeantPoint (go t k)) → MeantPoint (after (only p s) go)
  to_point_lem p (Ok (t, r)) go h f = bool_cases (p t) (λ e. rw e (f t r.next.at e h)) (λ e. rw e refl)
  to_point_lem p (Err g) go h f = refl

  closed_point_lem : (p : Point) (s : Took Token) → PointMeant p → MeantPoint (closed_point p s)
  closed_point_lem p (Ok (t, r)) h = h
  closed_point_lem p (Err g) h = refl

  point_meant : (k : ℕ) → MeantPoint (point_at text k)
  unfolding point_at
  point_meant k = to_point_lem (is_mark 40) (token_at text k) _ (token_meant text k) (λ _ k1 _ _.
      to_point_lem (is_sort number) (inside_at text k1) _ (inside_meant text k1) (λ l k2 e h.
      to_point_lem (is_sort number) (inside_at text k2) _ (inside_meant text k2) (λ c k3 f g.
      closed_point_lem _ (only (is_mark 41) (inside_at text k3)) (record { line = h.number e; column = g.number f }))))

  -- a link that must stand is given
  link_of_lem : (s : Took Token) → MeantLink (link_of s)
  link_of_lem (Ok (t, r)) = refl
  link_of_lem (Err g) = refl

  link_from_lem : (s : Took Token) → MeantLink (link_from text s)
  link_from_lem (Ok (t, r)) = link_of_lem (only (is_sort meta) (token_at text r.next.at))
  link_from_lem (Err g) = refl

  link_meant : (k : ℕ) → MeantLink (link_at text k)
  unfolding link_at
  link_meant k = link_from_lem (mark_at text 61 k)

  label_meant : (n : Token) → is_label n ≡ true → MeantToken text n → LabelMeant (label_of n)
  label_meant n i h = bool_cases (is_sort string n) (λ e. rw e refl) (λ e. rw e (h.number (rw e at i)))

  payload_meant : (p : Token) → MeantToken text p → PayloadMeant text (payload_of p)
  payload_meant p h = bool_cases (is_sort constant p) (λ e. rw e (h.characters e))
      (λ e. rw e (bool_cases (is_sort number p) (λ f. rw f (h.number f)) (λ f. rw f refl)))

  -- THE DECLARATION that a token opens
  module _ (t : Token) where
    ended_meant : (d : Decl) → DeclMeant text d → (k : ℕ) → MeantForm text (ended text t d k)
    ended_meant d h k = after_only (is_sort line_end) (token_at text k) _ (token_meant text k) (λ e k' p q. h)

    set_meant : (k : ℕ) → MeantForm text (set_form text t k)
    unfolding set_form
    set_meant k = after_set_lem (set_at text k) _ (λ n k'. ended_meant (decl.Set (record { at = k; count = n })) refl k')

    source_meant : (k : ℕ) → MeantForm text (source_form text t k)
    unfolding source_form
    source_meant k = after_only (is_sort string) (token_at text k) _ (token_meant text k) (λ file k1 e h.
        after_point_lem (point_at text k1) _ (point_meant k1) (λ first k2 p.
        after_point_lem (point_at text k2) _ (point_meant k2) (λ last k3 q.
        ended_meant (decl.Source (str file) (record { first = first; last = last })) (p, q) k3)))

    scope_meant : (k : ℕ) → MeantForm text (scope_form text t k)
    unfolding scope_form
    scope_meant k = after_only is_label (token_at text k) _ (token_meant text k) (λ n k1 e h.
        after_ref_lem (option_at text (bytes "in") k1) _ (λ i k2.
        after_ref_lem (option_at text (bytes "src") k2) _ (λ s k3.
        ended_meant (decl.Scope (label_of n) i s) (label_meant n e h) k3)))

    ident_meant : (k : ℕ) → MeantForm text (ident_form text t k)
    unfolding ident_form
    ident_meant k = after_only (is_sort string) (token_at text k) _ (token_meant text k) (λ n k1 e h.
        after_only (is_word text "in") (token_at text k1) _ (token_meant text k1) (λ u k2 f g.
        after_link (link_at text k2) _ (link_meant k2) (λ i k3 p.
        ended_meant (decl.Ident (str n) i) p k3)))

    attr_meant : (k : ℕ) → MeantForm text (attr_form text t k)
    unfolding attr_form
    attr_meant k = after_only (is_sort string) (token_at text k) _ (token_meant text k) (λ n k1 e h.
        after_only is_payload (token_at text k1) _ (token_meant text k1) (λ p k2 f g.
        ended_meant (decl.Attr (str n) (payload_of p)) (payload_meant p g) k2))

    metadata_meant : (w : Token) (k : ℕ) → MeantForm text (meta_form text t w k)
    unfolding meta_form
    metadata_meant w k =
        either (is_mark 123 w) _ _ (set_meant k)
        (either (is_word text "source" w) _ _ (source_meant k)
        (either (is_word text "scope" w) _ _ (scope_meant k)
        (either (is_word text "ident" w) _ _ (ident_meant k)
        (either (is_word text "attr" w) _ _ (attr_meant k) refl))))

    io_meant : (w : Token) (k : ℕ) → MeantForm text (io_form text t w k)
    unfolding io_form
    io_meant w k = either (is_word text "io" w) _ _ (ended_meant (decl.Io (str t) t.width) refl k) refl

    wiring_meant : (kind : ℕ) (name : Str) → is_kind kind ≡ true → (k : ℕ) → MeantForm text (wiring_form text t kind name k)
    unfolding wiring_form
    wiring_meant kind name h k =
        after_operand_lem (operand_if (leb 1 (kind_at kind).operands) text k) _ (λ a k1.
        after_operand_lem (operand_if (leb 2 (kind_at kind).operands) text k1) _ (λ b k2.
        after_operand_lem (operand_if (leb 3 (kind_at kind).operands) text k2) _ (λ c k3.
        after_ref_lem (meta_if text k3) _ (λ m k4.
        ended_meant (decl.Cell (record { kind = kind; width = t.width; name = name; a = a; b = b; c = c; meta = m })) h k4))))

    named_meant : (kind : ℕ) → is_kind kind ≡ true → (k : ℕ) → MeantForm text (named_form text t kind k)
    unfolding named_form
    named_meant kind h k = after_only (is_sort string) (token_at text k) _ (token_meant text k) (λ n k1 e g. wiring_meant kind (str n) h k1)

    cell_meant : (w : Token) (k : ℕ) → MeantForm text (cell_form text t w k)
    unfolding cell_form
    cell_meant w k = bool_cases (eqb (kind_of text w) 0)
        (λ e. rw e refl)
        (λ e. rw e (either (kind_at (kind_of text w)).named _ _ (named_meant (kind_of text w) (kind_is text w e) k) (wiring_meant (kind_of text w) (record { from = 0; size = 0 }) (kind_is text w e) k)))

    body_meant : (k : ℕ) → MeantForm text (body_form text t k)
    unfolding body_form
    body_meant k = after_only (is_mark 61) (token_at text k) _ (token_meant text k) (λ u k1 e g.
        after_any (token_at text k1) _ (token_meant text k1) (λ w k2 f.
        either (is_sort meta t) _ _ (metadata_meant w k2)
        (either (is_sort io t) _ _ (io_meant w k2) (cell_meant w k2))))

    open_meant : (k : ℕ) → MeantForm text (open_form text t k)
    unfolding open_form
    open_meant k = either (is_sort text_end t) _ _ refl (either (is_opening t) _ _ (body_meant k) refl)

  form_meant : (k : ℕ) → MeantForm text (form_at text k)
  unfolding form_at
  form_meant k = after_any (inside_at text k) _ (inside_meant text k) (λ t k1 h. open_meant t k1)

-- THE DECLARATION THAT IS TAKEN
pub meant : (text : List ℕ) (k : ℕ) (d : Declared) (r : Reader) → form_at text k ≡ Ok (Some (d, r)) → DeclMeant text d.decl
meant text k d r e = subst (MeantForm text) e (form_meant text k)

-- THE MEMBERS OF A SET are references that are written
module _ (text : List ℕ) where
  members_from_lem : (f k : ℕ) → every (λ (m : Ref). m.given) (members_from f text k) ≡ true
  unfolding members_from every next_member
  members_from_lem zero k = refl
  members_from_lem (suc f) k = go (inside_at text k) refl (λ r. members_from_lem f r.next.at)
    where
      go : (s : Took Token) → inside_at text k ≡ s → ((r : Reader) → every (λ (m : Ref). m.given) (members_from f text r.next.at) ≡ true) → every (λ (m : Ref). m.given) (members_from (suc f) text k) ≡ true
      go (Err g) e ih = rw (e, members_from) refl
      go (Ok (t, r)) e ih = bool_cases (is_sort meta t) (λ i. rw (e, i, members_from) (ih r)) (λ i. rw (e, i, members_from) refl)

  pub members_given : (k : ℕ) → every (λ (m : Ref). m.given) (members_at text k) ≡ true
  members_given k = members_from_lem (suc (length text)) k
