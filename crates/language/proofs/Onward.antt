-- The parts of a declaration never go back: sets, operands, references and points end where they begin or behind.
use Rattle.brackets.specs.declared.Ref.{Ref}
use Rattle.brackets.specs.declared.Operand.{Operand}
use Rattle.lexis.specs.Took.{Took, after}
use Rattle.std.specs.Prelude.{Ok, Err}
use mathlib.Core.Path.{◌≡◌, refl}
use mathlib.Core.Bool.{Bool, true, false}
use mathlib.Core.List.{List}
use Prim.Native.Nat.{ℕ, zero, suc, ◌+◌, ◌≤◌}
use lib.ListN.{length}
use Rattle.ground.proofs.Bools.{bool_cases}
use Rattle.kinds.proofs.Widths.{picked}
use Rattle.lexis.specs.Tokens.{token_at, inside_at, number, meta}
use Rattle.lexis.specs.declared.Token.{Token}
use Rattle.brackets.specs.Words.{is_sort, is_mark, is_spelled}
use Rattle.brackets.specs.Parts.{is_part, part_of, part_width, next_part, concat_from, concat_at, closed_operand, operand_from, operand_at, next_member, set_from}
use Rattle.form.specs.Forms.{only, mark_at, closed_point, point_at, link_of, link_from, link_at, option_from, option_at, operand_if, meta_from, meta_if}
use Rattle.form.specs.declared.Point.{Point}
use Rattle.saying.proofs.Tokens.{Nothing}
use Rattle.language.proofs.Moves.{Moves, moves_from, token_moves, inside_moves}

-- what is read from the place k on ends there or behind
abbrev pub StepOn : ℕ → Took Token → Type 0
StepOn k (Ok (t, r)) = k ≤ r.next.at
StepOn k (Err g) = Nothing

abbrev pub MeasureOn : ℕ → Took ℕ → Type 0
MeasureOn k (Ok (n, r)) = k ≤ r.next.at
MeasureOn k (Err g) = Nothing

abbrev pub OperandOn : ℕ → Took Operand → Type 0
OperandOn k (Ok (o, r)) = k ≤ r.next.at
OperandOn k (Err g) = Nothing

abbrev pub LinkOn : ℕ → Took Ref → Type 0
LinkOn k (Ok (f, r)) = k ≤ r.next.at
LinkOn k (Err g) = Nothing

abbrev pub PointOn : ℕ → Took Point → Type 0
PointOn k (Ok (p, r)) = k ≤ r.next.at
PointOn k (Err g) = Nothing

module _ (text : List ℕ) (k : ℕ) where
  -- A TOKEN from a place behind k on
  step_on : (s : Took Token) → Moves k s → StepOn k s
  step_on (Ok (t, r)) h = h.on
  step_on (Err g) h = refl

  -- a token that passes a test
  pub only_on : (p : Token → Bool) (s : Took Token) → StepOn k s → StepOn k (only p s)
  only_on p (Ok (t, r)) h = picked (StepOn k) (p t) _ _ h refl
  only_on p (Err g) h = refl

  -- the next token
  pub token_on : (j : ℕ) → k ≤ j → StepOn k (token_at text j)
  token_on j l = step_on (token_at text j) (moves_from k j (token_at text j) l (token_moves text j))

  -- the next token between brackets
  pub inside_on : (j : ℕ) → k ≤ j → StepOn k (inside_at text j)
  inside_on j l = step_on (inside_at text j) (moves_from k j (inside_at text j) l (inside_moves text j))

  -- SETS AND CONCATENATIONS
  -- the members of a set
  pub set_on : (f n j : ℕ) → k ≤ j → MeasureOn k (set_from f text n j)
  unfolding set_from next_member
  set_on zero n j l = refl
  set_on (suc f) n j l = go (inside_at text j) refl (inside_on j l) (λ i h. set_on f (n + 1) i h)
    where
      go : (s : Took Token) → inside_at text j ≡ s → StepOn k s → ((i : ℕ) → k ≤ i → MeasureOn k (set_from f text (n + 1) i)) → MeasureOn k (set_from (suc f) text n j)
      go (Err g) e h ih = rw (e, set_from) refl
      go (Ok (t, r)) e h ih = bool_cases (is_sort meta t)
          (λ i. rw (e, i, set_from) (ih r.next.at h))
          (λ i. rw (e, i, set_from) (picked (MeasureOn k) (is_mark 125 t) _ _ h refl))

  concat_on : (f n j : ℕ) → k ≤ j → MeasureOn k (concat_from f text n j)
  unfolding concat_from next_part
  concat_on zero n j l = refl
  concat_on (suc f) n j l = go (inside_at text j) refl (inside_on j l) (λ m i h. concat_on f m i h)
    where
      go : (s : Took Token) → inside_at text j ≡ s → StepOn k s → ((m i : ℕ) → k ≤ i → MeasureOn k (concat_from f text m i)) → MeasureOn k (concat_from (suc f) text n j)
      go (Err g) e h ih = rw (e, concat_from) refl
      go (Ok (t, r)) e h ih = bool_cases (is_part t)
          (λ i. rw (e, i, concat_from) (ih (n + part_width (part_of t)) r.next.at h))
          (λ i. rw (e, i, concat_from) (picked (MeasureOn k) (is_mark 93 t) _ _ h refl))

  -- OPERANDS
  closed_on : (j : ℕ) (m : Took ℕ) → MeasureOn k m → OperandOn k (closed_operand j m)
  closed_on j (Ok (n, r)) h = h
  closed_on j (Err g) h = refl

  operand_on : (j : ℕ) → k ≤ j → OperandOn k (operand_at text j)
  unfolding operand_at
  operand_on j l = go (token_at text j) (token_on j l)
    where
      go : (s : Took Token) → StepOn k s → OperandOn k (operand_from text j s)
      go (Err g) h = refl
      go (Ok (t, r)) h = picked (OperandOn k) (is_part t) _ _ h
          (picked (OperandOn k) (is_mark 91 t) _ _ (closed_on j (concat_at text r.next.at) (concat_on (suc (length text)) 0 r.next.at h)) refl)

  -- an operand, where the keyword has one
  pub operand_if_on : (given : Bool) (j : ℕ) → k ≤ j → OperandOn k (operand_if given text j)
  unfolding operand_if
  operand_if_on true j l = operand_on j l
  operand_if_on false j l = l

  -- REFERENCES
  link_of_lem : (s : Took Token) → StepOn k s → LinkOn k (link_of s)
  link_of_lem (Ok (t, r)) h = h
  link_of_lem (Err g) h = refl

  link_from_lem : (s : Took Token) → StepOn k s → LinkOn k (link_from text s)
  link_from_lem (Ok (t, r)) h = link_of_lem (only (is_sort meta) (token_at text r.next.at)) (only_on (is_sort meta) (token_at text r.next.at) (token_on r.next.at h))
  link_from_lem (Err g) h = refl

  -- a reference that must stand
  pub link_on : (j : ℕ) → k ≤ j → LinkOn k (link_at text j)
  unfolding link_at
  link_on j l = link_from_lem (mark_at text 61 j) (only_on (is_mark 61) (token_at text j) (token_on j l))

  -- an option that may be left out
  pub option_on : (w : List ℕ) (j : ℕ) → k ≤ j → LinkOn k (option_at text w j)
  unfolding option_at
  option_on w j l = go (token_at text j) (token_on j l)
    where
      go : (s : Took Token) → StepOn k s → LinkOn k (option_from text w j s)
      go (Ok (t, r)) h = picked (LinkOn k) (is_spelled text w t) _ _ (link_on r.next.at h) l
      go (Err g) h = refl

  -- a cell's metadata
  pub meta_on : (j : ℕ) → k ≤ j → LinkOn k (meta_if text j)
  unfolding meta_if
  meta_on j l = go (token_at text j) (token_on j l)
    where
      go : (s : Took Token) → StepOn k s → LinkOn k (meta_from j s)
      go (Ok (t, r)) h = picked (LinkOn k) (is_sort meta t) _ _ h l
      go (Err g) h = refl

  -- POINTS
  to_point_lem : (s : Took Token) (go : Token → ℕ → Took Point) → StepOn k s → ((t : Token) (i : ℕ) → k ≤ i → PointOn k (go t i)) → PointOn k (after s go)
  to_point_lem (Ok (t, r)) go h f = f t r.next.at h
  to_point_lem (Err g) go h f = refl

  closed_point_lem : (p : Point) (s : Took Token) → StepOn k s → PointOn k (closed_point p s)
  closed_point_lem p (Ok (t, r)) h = h
  closed_point_lem p (Err g) h = refl

  -- a point of a source range
  pub point_on : (j : ℕ) → k ≤ j → PointOn k (point_at text j)
  unfolding point_at
  point_on j l = to_point_lem (only (is_mark 40) (token_at text j)) _ (only_on (is_mark 40) (token_at text j) (token_on j l)) (λ _ k1 h.
      to_point_lem (only (is_sort number) (inside_at text k1)) _ (only_on (is_sort number) (inside_at text k1) (inside_on k1 h)) (λ a k2 p.
      to_point_lem (only (is_sort number) (inside_at text k2)) _ (only_on (is_sort number) (inside_at text k2) (inside_on k2 p)) (λ b k3 q.
      closed_point_lem _ (only (is_mark 41) (inside_at text k3)) (only_on (is_mark 41) (inside_at text k3) (inside_on k3 q)))))
