-- A declaration begins inside the text and ends behind where it begins; so declarations that stand are no more than the text's bytes.
use Rattle.form.specs.Form.{Form}
use Rattle.lexis.specs.Took.{Took, after}
use Rattle.std.specs.Prelude.{Ok, Err, Some, None}
use mathlib.Core.Path.{◌≡◌, refl, subst}
use mathlib.Core.Bool.{Bool, false}
use mathlib.Core.List.{List}
use Prim.Native.Nat.{ℕ, suc, ◌-◌, ◌<◌, ◌≤◌}
use native.Mathlib.Omega.{arith}
use lib.Dec.{leb, ltb, eqb}
use lib.ListN.{length}
use borrow.Author.Tests.{ltb-true, ltb-false}
use Rattle.ground.specs.Choice.{pick}
use Rattle.ground.specs.Text.{bytes}
use Rattle.ground.proofs.Bools.{bool_cases}
use Rattle.ground.proofs.Rest.{rest_end}
use Rattle.kinds.specs.Kinds.{kind_at}
use Rattle.kinds.proofs.Widths.{picked}
use Rattle.lexis.specs.Tokens.{token_from, token_at, inside_at, line_end, text_end, meta, io, string}
use Rattle.lexis.specs.declared.Reader.{Reader}
use Rattle.lexis.specs.declared.Token.{Token}
use Rattle.signs.proofs.Laws.{inside_end_lem}
use Rattle.brackets.specs.Words.{is_sort, is_mark, is_word, kind_of}
use Rattle.brackets.specs.Parts.{str, set_at}
use Rattle.form.specs.Forms.{only, ended, set_form, point_at, source_form, link_at, option_at, is_label, label_of, scope_form, ident_form, is_payload, payload_of, attr_form, meta_form, io_form, operand_if, meta_if, wiring_form, named_form, cell_form, body_form, is_opening, open_form, form_at}
use Rattle.brackets.specs.declared.Str.{Str}
use Rattle.brackets.specs.declared.Ref.{Ref}
use Rattle.brackets.specs.declared.Operand.{Operand}
use Rattle.form.specs.declared.Point.{Point}
use Rattle.form.specs.declared.Decl.{Decl}
use Rattle.form.specs.declared.Decl.TheVariants as decl
use Rattle.form.specs.declared.Declared.{Declared}
use Rattle.saying.proofs.Tokens.{Nothing}
use Rattle.language.specs.Language.{Stand, ended as stand-ended, next}
use Rattle.language.proofs.Moves.{Moves, moves_from, token_moves}
use Rattle.language.proofs.Onward.{StepOn, MeasureOn, OperandOn, LinkOn, PointOn, only_on, token_on, inside_on, set_on, operand_if_on, link_on, option_on, meta_on, point_on}

-- a declaration ends behind
abbrev FormOn : ℕ → Form → Type 0
FormOn k (Ok (Some (d, r))) = k < r.next.at
FormOn k (Ok None) = Nothing
FormOn k (Err g) = Nothing

module _ (text : List ℕ) (k : ℕ) where
  -- WHAT FOLLOWS
  either : (b : Bool) (x y : Form) → FormOn k x → FormOn k y → FormOn k (pick b x y)
  either b x y p q = picked (FormOn k) b x y p q

  after_step : (s : Took Token) (go : Token → ℕ → Form) → StepOn k s → ((t : Token) (i : ℕ) → k ≤ i → FormOn k (go t i)) → FormOn k (after s go)
  after_step (Ok (t, r)) go h f = f t r.next.at h
  after_step (Err g) go h f = refl

  after_token : (p : Token → Bool) (j : ℕ) (go : Token → ℕ → Form) → k ≤ j → ((t : Token) (i : ℕ) → k ≤ i → FormOn k (go t i)) → FormOn k (after (only p (token_at text j)) go)
  after_token p j go l f = after_step (only p (token_at text j)) go (only_on text k p (token_at text j) (token_on text k j l)) f

  after_operand_lem : (given : Bool) (j : ℕ) (go : Operand → ℕ → Form) → k ≤ j → ((o : Operand) (i : ℕ) → k ≤ i → FormOn k (go o i)) → FormOn k (after (operand_if given text j) go)
  after_operand_lem given j go l f = step (operand_if given text j) (operand_if_on text k given j l)
    where
      step : (o : Took Operand) → OperandOn k o → FormOn k (after o go)
      step (Ok (o, r)) h = f o r.next.at h
      step (Err g) h = refl

  after_ref_lem : (l : Took Ref) (go : Ref → ℕ → Form) → LinkOn k l → ((r : Ref) (i : ℕ) → k ≤ i → FormOn k (go r i)) → FormOn k (after l go)
  after_ref_lem (Ok (f, r)) go h g = g f r.next.at h
  after_ref_lem (Err x) go h g = refl

  after_point_lem : (o : Took Point) (go : Point → ℕ → Form) → PointOn k o → ((o : Point) (i : ℕ) → k ≤ i → FormOn k (go o i)) → FormOn k (after o go)
  after_point_lem (Ok (o, r)) go h f = f o r.next.at h
  after_point_lem (Err g) go h f = refl

  after_set_lem : (o : Took ℕ) (go : ℕ → ℕ → Form) → MeasureOn k o → ((n i : ℕ) → k ≤ i → FormOn k (go n i)) → FormOn k (after o go)
  after_set_lem (Ok (n, r)) go h f = f n r.next.at h
  after_set_lem (Err g) go h f = refl

  -- THE DECLARATION that a token opens
  module _ (t : Token) where
    -- a line end takes a byte at least
    ended_on : (d : Decl) (j : ℕ) → k ≤ j → FormOn k (ended text t d j)
    ended_on d j l = go (token_at text j) (moves_from k j (token_at text j) l (token_moves text j))
      where
        go : (s : Took Token) → Moves k s → FormOn k (after (only (is_sort line_end) s) (λ e i. Ok (Some (record { place = t.place; index = t.value; decl = d }, record { next = record { at = i } }))))
        go (Ok (u, r)) h = bool_cases (is_sort line_end u) (λ e. rw e (h.past e)) (λ e. rw e refl)
        go (Err g) h = refl

    set_form_on : (j : ℕ) → k ≤ j → FormOn k (set_form text t j)
    unfolding set_form
    set_form_on j l = after_set_lem (set_at text j) _ (set_on text k (suc (length text)) 0 j l) (λ n i h. ended_on (decl.Set (record { at = j; count = n })) i h)

    source_on : (j : ℕ) → k ≤ j → FormOn k (source_form text t j)
    unfolding source_form
    source_on j l = after_token (is_sort string) j _ l (λ file k1 h.
        after_point_lem (point_at text k1) _ (point_on text k k1 h) (λ first k2 p.
        after_point_lem (point_at text k2) _ (point_on text k k2 p) (λ last k3 q.
        ended_on (decl.Source (str file) (record { first = first; last = last })) k3 q)))

    scope_on : (j : ℕ) → k ≤ j → FormOn k (scope_form text t j)
    unfolding scope_form
    scope_on j l = after_token is_label j _ l (λ n k1 h.
        after_ref_lem (option_at text (bytes "in") k1) _ (option_on text k (bytes "in") k1 h) (λ i k2 p.
        after_ref_lem (option_at text (bytes "src") k2) _ (option_on text k (bytes "src") k2 p) (λ s k3 q.
        ended_on (decl.Scope (label_of n) i s) k3 q)))

    ident_on : (j : ℕ) → k ≤ j → FormOn k (ident_form text t j)
    unfolding ident_form
    ident_on j l = after_token (is_sort string) j _ l (λ n k1 h.
        after_token (is_word text "in") k1 _ h (λ u k2 p.
        after_ref_lem (link_at text k2) _ (link_on text k k2 p) (λ i k3 q.
        ended_on (decl.Ident (str n) i) k3 q)))

    attr_on : (j : ℕ) → k ≤ j → FormOn k (attr_form text t j)
    unfolding attr_form
    attr_on j l = after_token (is_sort string) j _ l (λ n k1 h.
        after_token is_payload k1 _ h (λ p k2 q.
        ended_on (decl.Attr (str n) (payload_of p)) k2 q))

    metadata_on : (w : Token) (j : ℕ) → k ≤ j → FormOn k (meta_form text t w j)
    unfolding meta_form
    metadata_on w j l =
        either (is_mark 123 w) _ _ (set_form_on j l)
        (either (is_word text "source" w) _ _ (source_on j l)
        (either (is_word text "scope" w) _ _ (scope_on j l)
        (either (is_word text "ident" w) _ _ (ident_on j l)
        (either (is_word text "attr" w) _ _ (attr_on j l) refl))))

    io_on : (w : Token) (j : ℕ) → k ≤ j → FormOn k (io_form text t w j)
    unfolding io_form
    io_on w j l = either (is_word text "io" w) _ _ (ended_on (decl.Io (str t) t.width) j l) refl

    wiring_on : (kind : ℕ) (name : Str) (j : ℕ) → k ≤ j → FormOn k (wiring_form text t kind name j)
    unfolding wiring_form
    wiring_on kind name j l =
        after_operand_lem (leb 1 (kind_at kind).operands) j _ l (λ a k1 p.
        after_operand_lem (leb 2 (kind_at kind).operands) k1 _ p (λ b k2 q.
        after_operand_lem (leb 3 (kind_at kind).operands) k2 _ q (λ c k3 r.
        after_ref_lem (meta_if text k3) _ (meta_on text k k3 r) (λ m k4 s.
        ended_on (decl.Cell (record { kind = kind; width = t.width; name = name; a = a; b = b; c = c; meta = m })) k4 s))))

    named_on : (kind j : ℕ) → k ≤ j → FormOn k (named_form text t kind j)
    unfolding named_form
    named_on kind j l = after_token (is_sort string) j _ l (λ n k1 h. wiring_on kind (str n) k1 h)

    cell_on : (w : Token) (j : ℕ) → k ≤ j → FormOn k (cell_form text t w j)
    unfolding cell_form
    cell_on w j l = either (eqb (kind_of text w) 0) _ _ refl
        (either (kind_at (kind_of text w)).named _ _ (named_on (kind_of text w) j l) (wiring_on (kind_of text w) (record { from = 0; size = 0 }) j l))

    body_on : (j : ℕ) → k ≤ j → FormOn k (body_form text t j)
    unfolding body_form
    body_on j l = after_token (is_mark 61) j _ l (λ u k1 h.
        after_step (token_at text k1) _ (token_on text k k1 h) (λ w k2 p.
        either (is_sort meta t) _ _ (metadata_on w k2 p)
        (either (is_sort io t) _ _ (io_on w k2 p) (cell_on w k2 p))))

    open_on : (j : ℕ) → k ≤ j → FormOn k (open_form text t j)
    unfolding open_form
    open_on j l = either (is_sort text_end t) _ _ refl (either (is_opening t) _ _ (body_on j l) refl)

  form_on : FormOn k (form_at text k)
  unfolding form_at
  form_on = after_step (inside_at text k) _ (inside_on text k k (omega arith)) (λ t k1 h. open_on t k1 h)

  -- at the end of the text and past it no declaration begins
  form_end : length text ≤ k → form_at text k ≡ Ok None
  unfolding form_at inside_at token_from open_form
  form_end h = rw (inside_end_lem text k false h, rest_end text k h)

  -- A DECLARATION THAT IS TAKEN begins inside the text
  pub took_inside : (d : Declared) (r : Reader) → form_at text k ≡ Ok (Some (d, r)) → k < length text
  took_inside d r e = bool_cases (ltb k (length text))
      (λ l. ltb-true k (length text) l)
      (λ l. let f = form_end (ltb-false k (length text) l) in let z : ◌≡◌ {A = ℕ} 0 1 = cc in absurd (omega arith))

  -- and ends behind where it begins
  pub took_past : (d : Declared) (r : Reader) → form_at text k ≡ Ok (Some (d, r)) → k < r.next.at
  took_past d r e = subst (FormOn k) e form_on

-- DECLARATIONS THAT STAND are no more than the bytes of the text from their place on
pub stand_short : {text : List ℕ} {k : ℕ} {ds : List Declared} → Stand text k ds → length ds ≤ length text - k
stand_short (stand-ended e) = omega arith
stand_short {text} {k} (next {d = d} {r = r} {ds = ds} e s) =
    let a = took_inside text k d r e in
    let b = took_past text k d r e in
    let c = stand_short s in
    omega arith
