-- What tokens give. Document 01, Text: "Indices, offsets, widths, counts: at most 65,535"; a string means as many bytes as its size
-- says, and a constant lies inside the text.
use Rattle.lexis.specs.Took.{Took}
use Rattle.std.specs.Prelude.{Ok, Err, Option, Some, None}
use mathlib.Core.Path.{◌≡◌, refl}
use mathlib.Core.Bool.{Bool, true, false, ◌||◌}
use mathlib.Core.List.{List, [], ◌∷◌}
use Prim.Native.Nat.{ℕ, suc, ◌+◌, ◌-◌, ◌<◌, ◌≤◌}
use native.Mathlib.Omega.{arith}
use lib.Dec.{ltb, eqb}
use lib.ListN.{length, drop, get_or, length-drop}
use borrow.Author.Tests.{ltb-false}
use Rattle.ground.specs.Choice.{pick}
use Rattle.ground.proofs.Bools.{bool_cases, never_both}
use Rattle.kinds.proofs.Widths.{picked}
use Rattle.signs.specs.Bytes.{is_constant, is_letter, is_feed, is_special}
use Rattle.signs.specs.Pieces.{span_end, digits_from, numeral_at, suffix_at, quoted_at, string_at, decoded}
use Rattle.lexis.specs.Tokens.{refused, plain, judged, single, signed_of, opens_placeholder, follows, constant_of, cell_of, named_from, io_of, string_step, number_of, meta_of, word_of, long_of, token_from, token_at, inside_at, constant, cell, io, number, meta, string, placeholder}
use Rattle.lexis.specs.declared.Token.{Token}
use Rattle.signs.specs.declared.pieces.Numeral.{Numeral}
use Rattle.signs.proofs.Strings.{closed_size}
use Rattle.brackets.specs.Words.{is_sort}
use Rattle.signs.specs.declared.pieces.Suffix.{Suffix}
use Rattle.signs.proofs.Laws.{span_most}

-- nothing to say
abbrev pub Nothing : Type 0
Nothing = ◌≡◌ {A = ℕ} 0 0

numeral_most : (text : List ℕ) (k : ℕ) → (numeral_at 65535 text k).value < 65536
unfolding numeral_at
numeral_most text k = capped (digits_from (drop k text) 0 k).value
  where
    capped : (n : ℕ) → pick (ltb 65535 n) 0 n < 65536
    capped n = bool_cases (ltb 65535 n) (λ e. rw e (omega arith)) (λ e. rw e (let h = ltb-false 65535 n e in omega arith))

suffix_most : (text : List ℕ) (mark k : ℕ) → (suffix_at text mark k).value < 65536
unfolding suffix_at
suffix_most text mark k =
    picked (λ (s : Suffix). s.value < 65536) (eqb (get_or text k 0) mark) _ _ (numeral_most text (k + 1)) (omega arith)

-- `!m`, `&"s"` and `%n` open declarations, and have an index or none
abbrev pub indexes : Token → Bool
indexes t = is_sort meta t || (is_sort io t || is_sort cell t)

abbrev pub spells : Token → Bool
spells t = is_sort string t || is_sort io t

-- a token has an index of the text, a string of its size, or a constant inside the text
pub record SoundToken (text : List ℕ) (t : Token) : Type 0 where
  pub index : indexes t ≡ true → t.value < 65536
  pub string : spells t ≡ true → t.size ≡ length (decoded text t.from)
  pub inside : is_sort constant t ≡ true → t.from + t.size ≤ length text
  pub offset : t.offset < 65536

-- the token that a step takes
abbrev pub SoundStep : List ℕ → Took Token → Type 0
SoundStep text (Err g) = Nothing
SoundStep text (Ok (t, r)) = SoundToken text t

-- a token of another sort
other : (text : List ℕ) (t : Token) → indexes t ≡ false → spells t ≡ false → is_sort constant t ≡ false → t.offset ≡ 0 → SoundToken text t
other text t f g c o = record { index = λ p. never_both p f; string = λ p. never_both p g; inside = λ p. never_both p c; offset = omega arith }

indexed : (text : List ℕ) (t : Token) → t.value < 65536 → spells t ≡ false → is_sort constant t ≡ false → t.offset < 65536 → SoundToken text t
indexed text t h g c o = record { index = λ p. h; string = λ p. never_both p g; inside = λ p. never_both p c; offset = o }

module _ (text : List ℕ) where
  -- a choice between two steps
  either : (b : Bool) (x y : Took Token) → SoundStep text x → SoundStep text y → SoundStep text (pick b x y)
  either b x y p q = picked (SoundStep text) b x y p q

  judged_sound : (malformed large : Bool) (k : ℕ) (s : Took Token) → SoundStep text s → SoundStep text (judged malformed large k s)
  judged_sound m l k s n = either m (refused 5 k) (pick l (refused 6 k) s) refl (either l (refused 6 k) s refl n)

  single_sound : (sort k from : ℕ) (i : Numeral) (value end : ℕ) → SoundToken text (plain sort k value 0 0) → SoundStep text (single sort k from i value end)
  single_sound sort k from i value end f = judged_sound (eqb i.end from) i.large k _ f

  constant_sound : (k : ℕ) → k ≤ length text → SoundStep text (constant_of text k)
  unfolding constant_of
  constant_sound k h =
      let e = span_end is_constant (drop k text) k in
      let c = suffix_at text 42 e in
      let long : k + (e - k) ≤ length text = (let m = span_most is_constant (drop k text) k in let l = length-drop k text in omega arith) in
      judged_sound c.broken c.large k _ (record { index = λ p. never_both p refl; string = λ p. never_both p refl; inside = λ p. long; offset = omega arith })

  cell_sound : (k : ℕ) → SoundStep text (cell_of text k)
  unfolding cell_of
  cell_sound k =
      let i = numeral_at 65535 text (k + 1) in
      let o = suffix_at text 43 i.end in
      let w = suffix_at text 58 o.end in
      let c = suffix_at text 42 w.end in
      either (opens_placeholder text i.end) _ _ (single_sound placeholder k (k + 1) i i.value (i.end + 2) (other text _ refl refl refl refl))
      (judged_sound (eqb i.end (k + 1) || (o.broken || (w.broken || c.broken))) (i.large || (o.large || (w.large || c.large))) k _ (indexed text _ (numeral_most text (k + 1)) refl refl (suffix_most text 43 i.end)))

  named_sound : (k : ℕ) (q : Option (ℕ × ℕ)) → q ≡ quoted_at text (k + 2) → SoundStep text (named_from text k q)
  unfolding quoted_at
  named_sound k (Some (n, e)) h =
      let o = suffix_at text 43 e in
      let w = suffix_at text 58 e in
      judged_sound (o.broken || w.broken) (o.large || w.large) k _ (record { index = λ p. omega arith; string = λ p. closed_size (string_at text (k + 2)) n e h; inside = λ p. never_both p refl; offset = suffix_most text 43 e })
  named_sound k None h = refl

  io_sound : (k : ℕ) → SoundStep text (io_of text k)
  unfolding io_of
  io_sound k =
      let w = suffix_at text 58 (k + 2) in
      either (eqb (get_or text (k + 1) 0) 95) _ _ (judged_sound w.broken w.large k _ (other text _ refl refl refl refl))
      (either (eqb (get_or text (k + 1) 0) 34) _ _ (named_sound k (quoted_at text (k + 2)) refl) refl)

  number_sound : (k : ℕ) → SoundStep text (number_of text k)
  unfolding number_of
  number_sound k =
      let m = numeral_at 2147483648 text (k + 2) in
      let i = numeral_at 2147483647 text (k + 1) in
      either (eqb (get_or text (k + 1) 0) 45) _ _ (single_sound number k (k + 2) m (signed_of true m.value) m.end (other text _ refl refl refl refl))
      (single_sound number k (k + 1) i (signed_of false i.value) i.end (other text _ refl refl refl refl))

  string_sound : (k : ℕ) (q : Option (ℕ × ℕ)) → q ≡ quoted_at text (k + 1) → SoundStep text (string_step k q)
  unfolding quoted_at
  string_sound k (Some (n, e)) h = record { index = λ p. never_both p refl; string = λ p. closed_size (string_at text (k + 1)) n e h; inside = λ p. never_both p refl; offset = omega arith }
  string_sound k None h = refl

  long_sound : (k b : ℕ) → k ≤ length text → SoundStep text (long_of text k b)
  unfolding long_of word_of meta_of
  long_sound k b h =
      let i = numeral_at 65535 text (k + 1) in
      either (is_letter b) _ _ (other text _ refl refl refl refl)
      (either (is_constant b) _ _ (constant_sound k h)
      (either (eqb b 35) _ _ (number_sound k)
      (either (eqb b 33) _ _ (single_sound meta k (k + 1) i i.value i.end (indexed text _ (numeral_most text (k + 1)) refl refl (omega arith)))
      (either (eqb b 38) _ _ (io_sound k)
      (either (eqb b 37) _ _ (cell_sound k)
      (either (eqb b 34) _ _ (string_sound k (quoted_at text (k + 1)) refl) refl))))))

  from_sound : (k : ℕ) (s : List ℕ) → drop k text ≡ s → SoundStep text (token_from text k s)
  unfolding token_from
  from_sound k [] e = other text _ refl refl refl refl
  from_sound k (b ∷ s) e =
      let h : k ≤ length text = (let l = length-drop k text in let m : length (drop k text) ≡ suc (length s) = rw e in omega arith) in
      either (is_feed b) _ _ (other text _ refl refl refl refl)
      (either (eqb b 13) _ _ (other text _ refl refl refl refl)
      (either (eqb b 59) _ _ (other text _ refl refl refl refl)
      (either (is_special b) _ _ (other text _ refl refl refl refl)
      (either (follows text k) _ _ refl (long_sound k b h)))))

  -- THE TOKEN, outside and between brackets
  pub token_sound : (k : ℕ) → SoundStep text (token_at text k)
  unfolding token_at
  token_sound k = from_sound _ _ refl

  pub inside_sound : (k : ℕ) → SoundStep text (inside_at text k)
  unfolding inside_at
  inside_sound k = from_sound _ _ refl
