-- How the definitions of the pieces go on at a byte of the text, and how they end.
use Rattle.std.specs.Prelude.{Option, Some, None}
use mathlib.Core.Path.{◌≡◌, refl, sym, ◌∙◌, ap}
use mathlib.Core.Bool.{Bool, true, false, not, ◌&&◌}
use mathlib.Core.List.{List, [], ◌∷◌}
use Prim.Native.Nat.{ℕ, suc, ◌+◌, ◌-◌, ◌*◌, ◌<◌, ◌≤◌}
use native.Mathlib.Nat.{add-zero, zero-add, add_assoc}
use native.Mathlib.Omega.{arith}
use lib.Dec.{ltb, eqb}
use lib.ListN.{length, drop, get_or}
use lib.Seq.{get_or-drop}
use borrow.Author.Tests.{lt-ltb, ltb-true, ltb-false, eqb-true}
use Rattle.ground.specs.Choice.{pick}
use Rattle.ground.proofs.Bools.{bool_cases}
use Rattle.ground.proofs.Rest.{rest_cons, rest_end, past_zero}
use Rattle.signs.specs.Bytes.{class_of, within, is_feed, is_digit, is_hex, is_raw, hex_of}
use Rattle.signs.specs.Pieces.{span_end, comment_end, inside_move, inside_end, digits_from, grown_past, limited, Str, whole, broken, prefixed, string_from, sized, quoted_at, taken_at}

-- a byte that is not 0 stands in the text
pub in_text : (s : List ℕ) (i : ℕ) → 0 < get_or s i 0 → i < length s
in_text s i h = bool_cases (ltb i (length s)) (λ e. ltb-true _ _ e) (λ e. absurd (omega (arith, past_zero s i (ltb-false _ _ e))))

-- spans of any test
module _ (p : ℕ → Bool) (s : List ℕ) (i : ℕ) where
  pub span_at : (v : Bool) → i < length s → p (get_or s i 0) ≡ v → span_end p (drop i s) i ≡ (elim v as (λ x. ℕ) [ true ↦ span_end p (drop (i + 1) s) (i + 1) | false ↦ i ])
  unfolding span_end
  span_at v h e = rw (rest_cons s i h, e, span_end)

  pub span_end_lem : length s ≤ i → span_end p (drop i s) i ≡ i
  unfolding span_end
  span_end_lem h = rw (rest_end s i h)

module _ (s : List ℕ) (i : ℕ) where
  pub comment_at : (v : Bool) → i < length s → is_feed (get_or s i 0) ≡ v → comment_end (drop i s) i ≡ (elim v as (λ x. ℕ) [ true ↦ i + 1 | false ↦ comment_end (drop (i + 1) s) (i + 1) ])
  unfolding comment_end
  comment_at true h e = ap (λ (n : ℕ). n + 1) (span_at (λ b. not (is_feed b)) s i false h (rw e))
  comment_at false h e = ap (λ (n : ℕ). n + 1) (span_at (λ b. not (is_feed b)) s i true h (rw e))

  pub comment_end_lem : length s ≤ i → comment_end (drop i s) i ≡ i + 1
  unfolding comment_end
  comment_end_lem h = ap (λ (n : ℕ). n + 1) (span_end_lem (λ b. not (is_feed b)) s i h)

  -- between brackets, at a byte that makes the move m
  pub inside_at : (noted : Bool) (m : ℕ) → i < length s → inside_move noted (class_of (get_or s i 0)) ≡ m → inside_end (drop i s) noted i ≡ pick (eqb m 0) i (inside_end (drop (i + 1) s) (eqb m 2) (i + 1))
  unfolding inside_end
  inside_at true m h e = bool_cases (is_feed (get_or s i 0))
      (λ f. rw (← e, rest_cons s i h, f, inside_end))
      (λ f. rw (← e, rest_cons s i h, f, inside_end))
  inside_at false m h e = bool_cases (within 1 3 (class_of (get_or s i 0)))
      (λ f. rw (← e, rest_cons s i h, f, inside_end))
      (λ f. bool_cases (eqb (class_of (get_or s i 0)) 14)
      (λ g. rw (← e, rest_cons s i h, f, g, inside_end))
      (λ g. rw (← e, rest_cons s i h, f, g, inside_end)))

  -- the line feed that ends a comment is white space to what begins there
  pub inside_feed : i < length s → inside_move true (class_of (get_or s i 0)) ≡ 1 → inside_end (drop i s) false i ≡ inside_end (drop i s) true i
  inside_feed h e =
      let f : is_feed (get_or s i 0) ≡ true = bool_cases (is_feed (get_or s i 0)) (λ z. z) (λ z. let n : ◌≡◌ {A = ℕ} 2 1 = rw z at e in absurd (omega arith)) in
      let c : class_of (get_or s i 0) ≡ 2 = eqb-true _ _ f in
      let w : inside_move false (class_of (get_or s i 0)) ≡ 1 = rw c in
      inside_at false 1 h w ∙ sym (inside_at true 1 h e)

  -- any other byte of a comment is passed
  pub inside_noted : i < length s → (inside_move true (class_of (get_or s i 0)) ≡ 1 → ⊥) → inside_end (drop i s) true i ≡ inside_end (drop (i + 1) s) true (i + 1)
  inside_noted h n = bool_cases (is_feed (get_or s i 0)) (λ f. absurd (n (rw f))) (λ f. inside_at true 2 h (rw f))

  pub inside_end_lem : (noted : Bool) → length s ≤ i → inside_end (drop i s) noted i ≡ i
  unfolding inside_end
  inside_end_lem noted h = rw (rest_end s i h)

-- numerals: past its limit a value is not asked for
past : (limit : ℕ) (s : List ℕ) (n m k : ℕ) → limit < n → limit < m → limited limit (digits_from s n k) ≡ limited limit (digits_from s m k)
unfolding digits_from
past limit [] n m k h j = rw (lt-ltb limit n h, lt-ltb limit m j)
past limit (b ∷ s) n m k h j = bool_cases (is_digit b)
    (λ d. rw (d, digits_from) (past limit s (n * 10 + (b - 48)) (m * 10 + (b - 48)) (k + 1) (omega arith) (omega arith)))
    (λ d. rw (d, digits_from, lt-ltb limit n h, lt-ltb limit m j))

module _ (limit : ℕ) (s : List ℕ) (n i : ℕ) where
  pub numeral_on : i < length s → is_digit (get_or s i 0) ≡ true → limited limit (digits_from (drop i s) n i) ≡ limited limit (digits_from (drop (i + 1) s) (grown_past limit n (get_or s i 0)) (i + 1))
  unfolding digits_from
  numeral_on h d = bool_cases (ltb limit n)
      (λ e. rw (rest_cons s i h, d, e, digits_from) (past limit (drop (i + 1) s) (n * 10 + (get_or s i 0 - 48)) n (i + 1) (omega (arith, ltb-true limit n e)) (ltb-true limit n e)))
      (λ e. rw (rest_cons s i h, d, e, digits_from))

  pub numeral_stop : i < length s → is_digit (get_or s i 0) ≡ false → digits_from (drop i s) n i ≡ record { value = n; end = i }
  unfolding digits_from
  numeral_stop h d = rw (rest_cons s i h, d, digits_from)

  pub numeral_end : length s ≤ i → digits_from (drop i s) n i ≡ record { value = n; end = i }
  unfolding digits_from
  numeral_end h = rw (rest_end s i h)

-- a string of n bytes and then what is left
abbrev counted : ℕ → Option (ℕ × ℕ) → Option (ℕ × ℕ)
counted n (Some (m, e)) = Some (n + m, e)
counted n None = None

counted_none : (q : Option (ℕ × ℕ)) → counted 0 q ≡ q
counted_none (Some (m, e)) = rw zero-add
counted_none None = refl

counted_more : (n : ℕ) (q : Option (ℕ × ℕ)) → counted n (counted 1 q) ≡ counted (n + 1) q
counted_more n (Some (m, e)) = rw add_assoc
counted_more n None = refl

sized_more : (b : ℕ) (q : Str) → sized (prefixed b q) ≡ counted 1 (sized q)
sized_more b (whole bs e) = let n : suc (length bs) ≡ 1 + length bs = omega arith in rw n
sized_more b broken = refl

string_past : (s : List ℕ) (skip i : ℕ) → length s ≤ i → string_from (drop i s) skip i ≡ broken
unfolding string_from
string_past s skip i h = rw (rest_end s i h)

string_skip : (s : List ℕ) (skip i : ℕ) → string_from (drop i s) (suc skip) i ≡ string_from (drop (i + 1) s) skip (i + 1)
unfolding string_from
string_skip s skip i = bool_cases (ltb i (length s))
    (λ e. rw (rest_cons s i (ltb-true _ _ e)))
    (λ e. let h : length s ≤ i = ltb-false _ _ e in string_past s (suc skip) i h ∙ sym (string_past s skip (i + 1) (omega arith)))

module _ (s : List ℕ) (i : ℕ) where
  first_behind : get_or (drop (i + 1) s) 0 0 ≡ get_or s (i + 1) 0
  first_behind = let m : i + 1 + 0 ≡ i + 1 = omega arith in rw (get_or-drop, m)

  second_behind : get_or (drop (i + 1) s) 1 0 ≡ get_or s (i + 2) 0
  second_behind = let n : i + 1 + 1 ≡ i + 2 = omega arith in rw (get_or-drop, n)

  skipped : string_from (drop (i + 1) s) 2 (i + 1) ≡ string_from (drop (i + 3) s) 0 (i + 3)
  skipped =
      let n : i + 1 + 1 + 1 ≡ i + 3 = omega arith in
      string_skip s 1 (i + 1) ∙ string_skip s 0 (i + 1 + 1) ∙ ap (λ (k : ℕ). string_from (drop k s) 0 k) n

-- a string at a byte of the text: its end, an escape, a raw byte
module _ (s : List ℕ) (i : ℕ) (h : i < length s) where
  pub string_close : eqb (get_or s i 0) 34 ≡ true → string_from (drop i s) 0 i ≡ whole [] (i + 1)
  unfolding string_from
  string_close o = rw (rest_cons s i h, o, string_from)

  pub string_escape : (v : Bool) → eqb (get_or s i 0) 34 ≡ false → eqb (get_or s i 0) 92 ≡ true → is_hex (get_or s (i + 1) 0) && is_hex (get_or s (i + 2) 0) ≡ v
      → string_from (drop i s) 0 i ≡ pick v (prefixed (hex_of (get_or s (i + 1) 0) * 16 + hex_of (get_or s (i + 2) 0)) (string_from (drop (i + 3) s) 0 (i + 3))) broken
  unfolding string_from
  string_escape true o e p = rw (rest_cons s i h, o, e, first_behind s i, second_behind s i, p, skipped s i, string_from) (rw (first_behind s i, second_behind s i))
  string_escape false o e p = rw (rest_cons s i h, o, e, first_behind s i, second_behind s i, p, string_from)

  pub string_raw : (v : Bool) → eqb (get_or s i 0) 34 ≡ false → eqb (get_or s i 0) 92 ≡ false → is_raw (get_or s i 0) ≡ v
      → string_from (drop i s) 0 i ≡ pick v (prefixed (get_or s i 0) (string_from (drop (i + 1) s) 0 (i + 1))) broken
  unfolding string_from
  string_raw true o e p = rw (rest_cons s i h, o, e, p, string_from)
  string_raw false o e p = rw (rest_cons s i h, o, e, p, string_from)

  -- the next byte of a string takes n bytes of the text
  next : (n : ℕ) → eqb (get_or s i 0) 34 ≡ false → n ≡ taken_at s i
      → sized (string_from (drop i s) 0 i) ≡ pick (eqb n 0) None (counted 1 (sized (string_from (drop (i + n) s) 0 (i + n))))
  next n o t = bool_cases (eqb (get_or s i 0) 92)
      (λ e. bool_cases (is_hex (get_or s (i + 1) 0) && is_hex (get_or s (i + 2) 0))
      (λ p. rw (t, e, p) (ap sized (string_escape true o e p) ∙ sized_more (hex_of (get_or s (i + 1) 0) * 16 + hex_of (get_or s (i + 2) 0)) (string_from (drop (i + 3) s) 0 (i + 3))))
      (λ p. rw (t, e, p) (ap sized (string_escape false o e p))))
      (λ e. bool_cases (is_raw (get_or s i 0))
      (λ p. rw (t, e, p) (ap sized (string_raw true o e p) ∙ sized_more (get_or s i 0) (string_from (drop (i + 1) s) 0 (i + 1))))
      (λ p. rw (t, e, p) (ap sized (string_raw false o e p))))

-- the string of which m bytes are read, and what is left of it stands at the place i
unfoldable pub quoted_from : ℕ → List ℕ → ℕ → Option (ℕ × ℕ)
quoted_from m s i = counted m (sized (string_from (drop i s) 0 i))

pub quoted_start : (s : List ℕ) (i : ℕ) → quoted_from 0 s i ≡ quoted_at s i
unfolding quoted_from quoted_at
quoted_start s i = counted_none (sized (string_from (drop i s) 0 i))

pub quoted_end : (m : ℕ) (s : List ℕ) (i : ℕ) → length s ≤ i → quoted_from m s i ≡ None
unfolding quoted_from
quoted_end m s i h = rw (string_past s 0 i h)

module _ (m : ℕ) (s : List ℕ) (i : ℕ) (h : i < length s) where
  pub quoted_close : eqb (get_or s i 0) 34 ≡ true → quoted_from m s i ≡ Some (m, i + 1)
  unfolding quoted_from
  quoted_close o = rw (string_close s i h o, add-zero)

  pub quoted_stop : (n : ℕ) → eqb (get_or s i 0) 34 ≡ false → n ≡ taken_at s i → eqb n 0 ≡ true → quoted_from m s i ≡ None
  unfolding quoted_from
  quoted_stop n o t z = rw (next s i h n o t, z)

  pub quoted_on : (n : ℕ) → eqb (get_or s i 0) 34 ≡ false → n ≡ taken_at s i → eqb n 0 ≡ false → quoted_from m s i ≡ quoted_from (m + 1) s (i + n)
  unfolding quoted_from
  quoted_on n o t z = rw (next s i h n o t, z) (counted_more m (sized (string_from (drop (i + n) s) 0 (i + n))))

-- a span ends in the text
pub span_most : (p : ℕ → Bool) (s : List ℕ) (k : ℕ) → span_end p s k ≤ k + length s
unfolding span_end
span_most p [] k = omega arith
span_most p (b ∷ s) k = bool_cases (p b)
    (λ e. rw (e, span_end) (let h = span_most p s (k + 1) in omega arith))
    (λ e. rw (e, span_end) (omega arith))
