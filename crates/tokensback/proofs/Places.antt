-- Places in a text: the byte there and what is left behind it, and the token that a byte begins.
use Prim.Native.Nat.{ℕ, ◌+◌, ◌≤◌, ◌<◌}
use mathlib.Core.Path.{◌≡◌, refl, sym, ap, ◌∙◌}
use mathlib.Core.Bool.{Bool, true, false, ◌||◌}
use mathlib.Core.List.{List, ◌∷◌}
use native.Mathlib.Omega.{arith}
use native.Mathlib.Nat.{add-zero}
use native.Mathlib.Numerals.{add-one}
use lib.Dec.{eqb, leb}
use lib.ListN.{drop, get_or}
use lib.Seq.{get_or-drop, drop-drop}
use borrow.Author.Tests.{eqb-true, ne_eqb, lt-leb}
use Rattle.ground.proofs.Bools.{bool_cases}
use Rattle.signs.specs.Bytes.{class_from, class_of, within, is_white, is_special}
use Rattle.signs.specs.Pieces.{span_end, inside_end}
use Rattle.lexis.specs.Tokens.{took, plain, mark, follows, long_of, token_from, token_at, inside_at}
use Rattle.lexis.specs.declared.Token.{Token}
use Rattle.tokensback.proofs.Standing.{Stands, Takes}

module _ (text : List ℕ) (k : ℕ) where
  -- the byte at a place is the first of what is left there
  pub first_left : get_or text k 0 ≡ get_or (drop k text) 0 0
  first_left = rw (get_or-drop, add-zero)

  -- the byte at the place
  pub byte_here : {s : List ℕ} (b : ℕ) → drop k text ≡ b ∷ s → get_or text k 0 ≡ b
  byte_here b h = first_left ∙ ap (λ (l : List ℕ). get_or l 0 0) h

  -- what is left past it
  pub past_byte : {b : ℕ} {s : List ℕ} → drop k text ≡ b ∷ s → drop (k + 1) text ≡ s
  past_byte h = sym (drop-drop 1 k text) ∙ ap (λ (l : List ℕ). drop 1 l) h

  -- and past the next
  pub past_two : {b c : ℕ} {s : List ℕ} → drop k text ≡ b ∷ c ∷ s → drop (k + 2) text ≡ s
  past_two h = sym (drop-drop 2 k text) ∙ ap (λ (l : List ℕ). drop 2 l) h

  -- behind white space and behind a special character a token may begin
  pub stands_behind : {s : List ℕ} (b : ℕ) → drop k text ≡ b ∷ s → within 1 2 (class_of b) || is_special b ≡ true → Stands text (k + 1) s
  unfolding follows
  stands_behind b h e = record { rest = past_byte h; free = rw (add-one, byte_here b h, e) }

  -- a byte that fails the test ends a span, and one that passes it goes on
  span_stays : {b : ℕ} {s : List ℕ} (p : ℕ → Bool) → drop k text ≡ b ∷ s → p b ≡ false → span_end p (drop k text) k ≡ k
  unfolding span_end
  span_stays p h e = rw (h, e, span_end)

  span_goes : {b : ℕ} {s : List ℕ} (p : ℕ → Bool) → drop k text ≡ b ∷ s → p b ≡ true → span_end p (drop k text) k ≡ span_end p (drop (k + 1) text) (k + 1)
  unfolding span_end
  span_goes p h e = rw (past_byte h, h, e, span_end)

  inside_stays : {s : List ℕ} (b : ℕ) → drop k text ≡ b ∷ s → within 1 3 (class_of b) ≡ false → eqb (class_of b) 14 ≡ false → inside_end (drop k text) false k ≡ k
  unfolding inside_end
  inside_stays b h e f = rw (h, e, inside_end, f)

  -- a space is passed over
  pub space_passed : {s : List ℕ} → drop k text ≡ 32 ∷ s → (token_at text k ≡ token_at text (k + 1)) × (inside_at text k ≡ inside_at text (k + 1))
  unfolding token_at inside_at inside_end class_of class_from
  space_passed h = (rw (span_goes is_white h refl), rw (past_byte h, h))

  -- a byte that is no white space is not passed over
  pub outside_here : {s : List ℕ} (b : ℕ) → drop k text ≡ b ∷ s → is_white b ≡ false → token_at text k ≡ token_from text k (b ∷ s)
  unfolding token_at
  outside_here b h e = rw (span_stays is_white h e, h)

  -- nor one, between brackets, that ends no line and begins no comment
  pub inside_here : {s : List ℕ} (b : ℕ) → drop k text ≡ b ∷ s → within 1 3 (class_of b) ≡ false → eqb (class_of b) 14 ≡ false → inside_at text k ≡ token_from text k (b ∷ s)
  unfolding inside_at
  inside_here b h e f = rw (inside_stays b h e f, h)

-- a number past a range lies not in it
outside_range : (a e c : ℕ) → e < c → within a e c ≡ false
outside_range a e c h = bool_cases (leb a c) (λ p. rw (p, lt-leb c e h)) (λ p. rw p)

-- a byte of another class than a carriage return's, and than `;`'s
not_return : (b : ℕ) → (class_of b ≡ 3 → ⊥) → eqb b 13 ≡ false
unfolding class_of class_from
not_return b f = ne_eqb b 13 (λ e. f (ap class_of e))

not_comment : (b : ℕ) → (class_of b ≡ 14 → ⊥) → eqb b 59 ≡ false
unfolding class_of class_from
not_comment b f = ne_eqb b 59 (λ e. f (ap class_of e))

module _ (text : List ℕ) (k b : ℕ) {s : List ℕ} (h : Stands text k (b ∷ s)) (l : 4 ≤ class_of b) (m : class_of b ≤ 13) where
  from_here : token_from text k (b ∷ s) ≡ long_of text k b
  unfolding token_from
  from_here =
      let f : eqb (class_of b) 2 ≡ false = ne_eqb (class_of b) 2 (λ e. omega arith) in
      let j : eqb (class_of b) 15 ≡ false = ne_eqb (class_of b) 15 (λ e. omega arith) in
      rw (f, not_return b (λ e. omega arith), not_comment b (λ e. omega arith), j, h.free)

  -- the token, no line end and no special character, that the byte b begins
  pub begun : {r : List ℕ} {t : Token} (e : ℕ) → long_of text k b ≡ took t e → drop e text ≡ r → Takes text k t r
  begun e p q = record {
    end = e;
    outside = outside_here text k b h.rest (outside_range 1 1 (class_of b) (omega arith)) ∙ from_here ∙ p;
    inside = inside_here text k b h.rest (outside_range 1 3 (class_of b) (omega arith)) (ne_eqb (class_of b) 14 (λ e. omega arith)) ∙ from_here ∙ p;
    rest = q;
  }

-- a special character is a mark
pub mark_from : (text : List ℕ) (k b : ℕ) (s : List ℕ) → is_special b ≡ true → token_from text k (b ∷ s) ≡ took (plain mark k b 0 0) (k + 1)
unfolding token_from
mark_from text k b s p =
    let c : class_of b ≡ 15 = eqb-true (class_of b) 15 p in
    rw (c, not_return b (λ e. omega arith), not_comment b (λ e. omega arith))
