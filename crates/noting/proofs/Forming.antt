-- Every declaration that the form takes brings what a declaration of good form has.
use Rattle.form.specs.Form.{Form}
use Rattle.lexis.specs.Took.{Took, after}
use Rattle.std.specs.Prelude.{Ok, Err, Some, None}
use mathlib.Core.Path.{◌≡◌, refl, ap, subst}
use mathlib.Core.Bool.{Bool, true, false, ◌||◌}
use mathlib.Core.List.{List}
use Prim.Native.Nat.{ℕ, ◌<◌}
use native.Mathlib.Omega.{arith}
use lib.Dec.{leb, eqb}
use lib.ListN.{length}
use Rattle.ground.specs.Choice.{pick}
use Rattle.ground.specs.Lists.{total}
use Rattle.ground.specs.Text.{bytes}
use Rattle.ground.proofs.Bools.{bool_cases, never_both, and_true, or_left, or_right}
use Rattle.kinds.specs.Kinds.{kind_at}
use Rattle.kinds.proofs.Widths.{picked}
use Rattle.lexis.specs.Tokens.{token_at, inside_at, line_end, text_end, constant, number, meta, io, cell, string}
use Rattle.lexis.specs.declared.Reader.{Reader}
use Rattle.lexis.specs.declared.Token.{Token}
use Rattle.brackets.specs.Words.{is_sort, is_mark, is_spelled, is_word, kind_of}
use Rattle.brackets.specs.Parts.{is_part, part_of, part_width, str, no_operand, operand, concat_at, closed_operand, operand_from, operand_at, parts_at, set_at, members_at}
use Rattle.form.specs.Forms.{only, mark_at, ended, set_form, point_at, source_form, link_of, link_from, link_at, option_from, option_at, is_label, label_of, scope_form, ident_form, is_payload, payload_of, attr_form, meta_form, io_form, operand_if, meta_from, meta_if, wiring_form, named_form, cell_form, body_form, is_opening, open_form, form_at}
use Rattle.brackets.specs.declared.Str.{Str}
use Rattle.brackets.specs.declared.Ref.{Ref}
use Rattle.brackets.specs.declared.Operand.{Operand}
use Rattle.form.specs.declared.Point.{Point}
use Rattle.form.specs.declared.Decl.{Decl}
use Rattle.form.specs.declared.Decl.TheVariants as decl
use Rattle.form.specs.declared.Declared.{Declared}
use Rattle.brackets.proofs.Sums.{set_count, operand_sum}
use Rattle.saying.proofs.Tokens.{Nothing, SoundToken, SoundStep, indexes, token_sound, inside_sound}
use Rattle.noting.specs.Formed.{StrIn, ConstantIn, RefIn, NothingMore, LabelIn, PayloadIn, OperandIn, WiringIn, DeclIn, Formed}

abbrev pub SoundForm : List ℕ → Form → Type 0
SoundForm text (Ok (Some (d, r))) = Formed text d
SoundForm text (Ok None) = Nothing
SoundForm text (Err g) = Nothing

abbrev SoundLink : Took Ref → Type 0
SoundLink (Ok (f, r)) = RefIn f
SoundLink (Err g) = Nothing

-- an operand that is taken is given
abbrev given_in : Took Operand → Type 0
given_in (Ok (o, r)) = o.given ≡ true
given_in (Err g) = Nothing

closed_given : (k : ℕ) (m : Took ℕ) → given_in (closed_operand k m)
closed_given k (Ok (n, r)) = refl
closed_given k (Err g) = refl

given_at : (text : List ℕ) (k : ℕ) (o : Operand) (r : Reader) → operand_at text k ≡ Ok (o, r) → o.given ≡ true
unfolding operand_at
given_at text k o r e = subst given_in e (go (token_at text k))
  where
    go : (s : Took Token) → given_in (operand_from text k s)
    go (Err g) = refl
    go (Ok (t, q)) = picked given_in (is_part t) _ _ refl (picked given_in (is_mark 91 t) _ _ (closed_given k (concat_at text q.next.at)) refl)

module _ (text : List ℕ) where
  either : (b : Bool) (x y : Form) → SoundForm text x → SoundForm text y → SoundForm text (pick b x y)
  either b x y p q = picked (SoundForm text) b x y p q

  -- what follows a token of any sort, and one that passes a test
  after_any : (s : Took Token) (go : Token → ℕ → Form) → SoundStep text s → ((t : Token) (k : ℕ) → SoundToken text t → SoundForm text (go t k)) → SoundForm text (after s go)
  after_any (Ok (t, r)) go h f = f t r.next.at h
  after_any (Err g) go h f = refl

  after_only : (p : Token → Bool) (s : Took Token) (go : Token → ℕ → Form) → SoundStep text s → ((t : Token) (k : ℕ) → p t ≡ true → SoundToken text t → SoundForm text (go t k)) → SoundForm text (after (only p s) go)
  after_only p (Ok (t, r)) go h f = bool_cases (p t) (λ e. rw e (f t r.next.at e h)) (λ e. rw e refl)
  after_only p (Err g) go h f = refl

  after_ref_lem : (l : Took Ref) (go : Ref → ℕ → Form) → SoundLink l → ((r : Ref) (k : ℕ) → RefIn r → SoundForm text (go r k)) → SoundForm text (after l go)
  after_ref_lem (Ok (f, r)) go h g = g f r.next.at h
  after_ref_lem (Err x) go h g = refl

  after_operand_lem : (has : Bool) (at : ℕ) (go : Operand → ℕ → Form) → ((o : Operand) (k : ℕ) → OperandIn text has o → SoundForm text (go o k)) → SoundForm text (after (operand_if has text at) go)
  unfolding operand_if parts_at total
  after_operand_lem true at go f = step (operand_at text at) refl
    where
      step : (o : Took Operand) → operand_at text at ≡ o → SoundForm text (after o go)
      step (Ok (o, r)) e = f o r.next.at (record { given = given_at text at o r e; width = operand_sum text at o r e })
      step (Err g) e = refl
  after_operand_lem false at go f = f no_operand at (record { given = refl; width = refl })

  after_point_lem : (o : Took Point) (go : Point → ℕ → Form) → ((o : Point) (k : ℕ) → SoundForm text (go o k)) → SoundForm text (after o go)
  after_point_lem (Ok (o, r)) go f = f o r.next.at
  after_point_lem (Err g) go f = refl

  after_set_lem : (at : ℕ) (go : ℕ → ℕ → Form) → ((n k : ℕ) → n ≡ length (members_at text at) → SoundForm text (go n k)) → SoundForm text (after (set_at text at) go)
  after_set_lem at go f = step (set_at text at) refl
    where
      step : (o : Took ℕ) → set_at text at ≡ o → SoundForm text (after o go)
      step (Ok (n, r)) e = f n r.next.at (set_count text at n r e)
      step (Err g) e = refl

  -- references
  link_of_lem : (s : Took Token) → SoundStep text s → SoundLink (link_of (only (is_sort meta) s))
  link_of_lem (Ok (t, r)) h = bool_cases (is_sort meta t) (λ e. rw e (record { small = h.index (or_left (is_sort meta t) (is_sort io t || is_sort cell t) e) })) (λ e. rw e refl)
  link_of_lem (Err g) h = refl

  link_from_lem : (s : Took Token) → SoundLink (link_from text s)
  link_from_lem (Ok (t, r)) = link_of_lem (token_at text r.next.at) (token_sound text r.next.at)
  link_from_lem (Err g) = refl

  link_sound : (k : ℕ) → SoundLink (link_at text k)
  unfolding link_at
  link_sound k = link_from_lem (mark_at text 61 k)

  option_sound : (w : List ℕ) (k : ℕ) → SoundLink (option_at text w k)
  unfolding option_at
  option_sound w k = go (token_at text k)
    where
      go : (s : Took Token) → SoundLink (option_from text w k s)
      go (Ok (t, r)) = picked SoundLink (is_spelled text w t) _ _ (link_sound r.next.at) (record { small = omega arith })
      go (Err g) = refl

  meta_sound : (k : ℕ) → SoundLink (meta_if text k)
  unfolding meta_if
  meta_sound k = go (token_at text k) (token_sound text k)
    where
      go : (s : Took Token) → SoundStep text s → SoundLink (meta_from k s)
      go (Ok (t, r)) h = bool_cases (is_sort meta t) (λ e. rw e (record { small = h.index (or_left (is_sort meta t) (is_sort io t || is_sort cell t) e) })) (λ e. rw e (record { small = omega arith }))
      go (Err g) h = refl

  -- a string token
  string_of : (t : Token) → is_sort string t ≡ true → SoundToken text t → StrIn text (str t)
  string_of t e h = record { size = h.string (or_left (is_sort string t) (is_sort io t) e) }

  label_sound : (n : Token) → SoundToken text n → LabelIn text (label_of n)
  label_sound n h = bool_cases (is_sort string n) (λ e. rw e (string_of n e h)) (λ e. rw e record {})

  payload_sound : (p : Token) → is_payload p ≡ true → SoundToken text p → PayloadIn text (payload_of p)
  payload_sound p i h = bool_cases (is_sort constant p) (λ e. rw e (record { inside = h.inside e }))
      (λ e. rw e (bool_cases (is_sort number p) (λ f. rw f record {}) (λ f. rw f (string_of p (rw (e, f) at i) h))))

  -- THE DECLARATION that a token opens, whose index is small
  module _ (t : Token) (small : t.value < 65536) where
    ended_sound : (d : Decl) → DeclIn text d → (k : ℕ) → SoundForm text (ended text t d k)
    ended_sound d h k = after_only (is_sort line_end) (token_at text k) _ (token_sound text k) (λ e k' p q. record { index = small; decl = h })

    set_sound : (k : ℕ) → SoundForm text (set_form text t k)
    unfolding set_form
    set_sound k = after_set_lem k _ (λ n k' c. ended_sound (decl.Set (record { at = k; count = n })) c k')

    source_sound : (k : ℕ) → SoundForm text (source_form text t k)
    unfolding source_form
    source_sound k = after_only (is_sort string) (token_at text k) _ (token_sound text k) (λ file k1 e h.
        after_point_lem (point_at text k1) _ (λ first k2.
        after_point_lem (point_at text k2) _ (λ last k3.
        ended_sound (decl.Source (str file) (record { first = first; last = last })) (string_of file e h) k3)))

    scope_sound : (k : ℕ) → SoundForm text (scope_form text t k)
    unfolding scope_form
    scope_sound k = after_only is_label (token_at text k) _ (token_sound text k) (λ n k1 e h.
        after_ref_lem (option_at text (bytes "in") k1) _ (option_sound (bytes "in") k1) (λ i k2 p.
        after_ref_lem (option_at text (bytes "src") k2) _ (option_sound (bytes "src") k2) (λ s k3 q.
        ended_sound (decl.Scope (label_of n) i s) (label_sound n h, p, q) k3)))

    ident_sound : (k : ℕ) → SoundForm text (ident_form text t k)
    unfolding ident_form
    ident_sound k = after_only (is_sort string) (token_at text k) _ (token_sound text k) (λ n k1 e h.
        after_only (is_word text "in") (token_at text k1) _ (token_sound text k1) (λ u k2 f g.
        after_ref_lem (link_at text k2) _ (link_sound k2) (λ i k3 p.
        ended_sound (decl.Ident (str n) i) (string_of n e h, p) k3)))

    attr_sound : (k : ℕ) → SoundForm text (attr_form text t k)
    unfolding attr_form
    attr_sound k = after_only (is_sort string) (token_at text k) _ (token_sound text k) (λ n k1 e h.
        after_only is_payload (token_at text k1) _ (token_sound text k1) (λ p k2 f g.
        ended_sound (decl.Attr (str n) (payload_of p)) (string_of n e h, payload_sound p f g) k2))

    metadata_sound : (w : Token) (k : ℕ) → SoundForm text (meta_form text t w k)
    unfolding meta_form
    metadata_sound w k =
        either (is_mark 123 w) _ _ (set_sound k)
        (either (is_word text "source" w) _ _ (source_sound k)
        (either (is_word text "scope" w) _ _ (scope_sound k)
        (either (is_word text "ident" w) _ _ (ident_sound k)
        (either (is_word text "attr" w) _ _ (attr_sound k) refl))))

    io_sound : (w : Token) (k : ℕ) → StrIn text (str t) → SoundForm text (io_form text t w k)
    unfolding io_form
    io_sound w k h = either (is_word text "io" w) _ _ (ended_sound (decl.Io (str t) t.width) h k) refl

    wiring_sound : (kind : ℕ) (name : Str) → ((kind_at kind).named ≡ true → StrIn text name) → (k : ℕ) → SoundForm text (wiring_form text t kind name k)
    unfolding wiring_form
    wiring_sound kind name h k =
        after_operand_lem (leb 1 (kind_at kind).operands) k _ (λ a k1 p.
        after_operand_lem (leb 2 (kind_at kind).operands) k1 _ (λ b k2 q.
        after_operand_lem (leb 3 (kind_at kind).operands) k2 _ (λ c k3 r.
        after_ref_lem (meta_if text k3) _ (meta_sound k3) (λ m k4 s.
        ended_sound (decl.Cell (record { kind = kind; width = t.width; name = name; a = a; b = b; c = c; meta = m })) (record { name = h; a = p; b = q; c = r; meta = s }) k4))))

    named_sound : (kind k : ℕ) → SoundForm text (named_form text t kind k)
    unfolding named_form
    named_sound kind k = after_only (is_sort string) (token_at text k) _ (token_sound text k) (λ n k1 e h. wiring_sound kind (str n) (λ _. string_of n e h) k1)

    cell_sound : (w : Token) (k : ℕ) → SoundForm text (cell_form text t w k)
    unfolding cell_form
    cell_sound w k = either (eqb (kind_of text w) 0) _ _ refl
        (bool_cases (kind_at (kind_of text w)).named
        (λ e. rw e (named_sound (kind_of text w) k))
        (λ e. rw e (wiring_sound (kind_of text w) (record { from = 0; size = 0 }) (λ p. never_both p e) k)))

    body_sound : SoundToken text t → (k : ℕ) → SoundForm text (body_form text t k)
    unfolding body_form
    body_sound h k = after_only (is_mark 61) (token_at text k) _ (token_sound text k) (λ u k1 e g.
        after_any (token_at text k1) _ (token_sound text k1) (λ w k2 f.
        either (is_sort meta t) _ _ (metadata_sound w k2)
        (bool_cases (is_sort io t)
        (λ i. rw i (io_sound w k2 (record { size = h.string (or_right (is_sort string t) (is_sort io t) i) })))
        (λ i. rw i (cell_sound w k2)))))

  -- a token that opens a declaration has an index
  opening : (t : Token) → is_opening t ≡ true → indexes t ≡ true
  opening t h = bool_cases (is_sort meta t) (λ m. or_left (is_sort meta t) (is_sort io t || is_sort cell t) m)
      (λ m. or_right (is_sort meta t) (is_sort io t || is_sort cell t) (bool_cases (is_sort io t)
      (λ i. or_left (is_sort io t) (is_sort cell t) i)
      (λ i. or_right (is_sort io t) (is_sort cell t) (and_true (is_sort cell t) (eqb t.parts 2) (rw (m, i) at h)).0)))

  open_sound : (t : Token) → SoundToken text t → (k : ℕ) → SoundForm text (open_form text t k)
  unfolding open_form
  open_sound t h k = either (is_sort text_end t) _ _ refl
      (bool_cases (is_opening t)
      (λ e. rw e (body_sound t (h.index (opening t e)) h k))
      (λ e. rw e refl))

  pub form_sound : (k : ℕ) → SoundForm text (form_at text k)
  unfolding form_at
  form_sound k = after_any (inside_at text k) _ (inside_sound text k) (λ t k1 h. open_sound t h k1)

-- THE DECLARATION THAT IS TAKEN
pub formed : (text : List ℕ) (k : ℕ) (d : Declared) (r : Reader) → form_at text k ≡ Ok (Some (d, r)) → Formed text d
formed text k d r e = subst (SoundForm text) e (form_sound text k)
