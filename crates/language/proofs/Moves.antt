-- Every token moves the reader on or leaves it where it is, and a line end takes a byte at least.
use Rattle.lexis.specs.Took.{Took}
use Rattle.std.specs.Prelude.{Ok, Err, Option, Some, None}
use mathlib.Core.Path.{◌≡◌, refl}
use mathlib.Core.Bool.{Bool, true, false, not, ◌&&◌, ◌||◌}
use mathlib.Core.List.{List, [], ◌∷◌}
use Prim.Native.Nat.{ℕ, zero, suc, ◌+◌, ◌-◌, ◌*◌, ◌<◌, ◌≤◌}
use native.Mathlib.Omega.{arith}
use lib.Dec.{eqb}
use lib.ListN.{drop, get_or}
use Rattle.ground.specs.Choice.{pick}
use Rattle.ground.proofs.Bools.{bool_cases, never_both}
use Rattle.kinds.proofs.Widths.{picked}
use Rattle.signs.specs.Bytes.{class_of, within, is_white, is_constant, is_letter, is_feed, is_special, is_digit, is_hex, is_raw, hex_of}
use Rattle.signs.specs.Pieces.{span_end, comment_end, inside_end, digits_from, numeral_at, suffix_at, Str, whole, broken, prefixed, string_from, sized, string_at, quoted_at}
use Rattle.lexis.specs.Tokens.{refused, judged, single, signed_of, opens_placeholder, follows, constant_of, cell_of, named_from, io_of, string_step, number_of, meta_of, word_of, long_of, token_from, token_at, inside_at, line_end, number, meta, placeholder}
use Rattle.lexis.specs.declared.Token.{Token}
use Rattle.signs.specs.declared.pieces.Numeral.{Numeral}
use Rattle.signs.specs.declared.pieces.Suffix.{Suffix}
use Rattle.brackets.specs.Words.{is_sort}
use Rattle.saying.proofs.Tokens.{Nothing}

-- THE PIECES end where they begin or behind
span_on : (p : ℕ → Bool) (s : List ℕ) (k : ℕ) → k ≤ span_end p s k
unfolding span_end
span_on p [] k = omega arith
span_on p (b ∷ s) k = bool_cases (p b)
    (λ e. rw (e, span_end) (let h = span_on p s (k + 1) in omega arith))
    (λ e. rw (e, span_end) (omega arith))

inside_on : (s : List ℕ) (noted : Bool) (k : ℕ) → k ≤ inside_end s noted k
unfolding inside_end
inside_on [] noted k = omega arith
inside_on (b ∷ s) true k = let h = inside_on s (not (is_feed b)) (k + 1) in omega arith
inside_on (b ∷ s) false k = bool_cases (within 1 3 (class_of b))
    (λ e. rw (e, inside_end) (let h = inside_on s false (k + 1) in omega arith))
    (λ e. bool_cases (eqb (class_of b) 14)
    (λ f. rw (e, f, inside_end) (let h = inside_on s true (k + 1) in omega arith))
    (λ f. rw (e, f, inside_end) (omega arith)))

digits_on : (s : List ℕ) (n k : ℕ) → k ≤ (digits_from s n k).end
unfolding digits_from
digits_on [] n k = omega arith
digits_on (b ∷ s) n k = bool_cases (is_digit b)
    (λ e. rw (e, digits_from) (let h = digits_on s (n * 10 + (b - 48)) (k + 1) in omega arith))
    (λ e. rw (e, digits_from) (omega arith))

numeral_on : (limit : ℕ) (text : List ℕ) (k : ℕ) → k ≤ (numeral_at limit text k).end
unfolding numeral_at
numeral_on limit text k = digits_on (drop k text) 0 k

suffix_on : (text : List ℕ) (mark k : ℕ) → k ≤ (suffix_at text mark k).end
unfolding suffix_at
suffix_on text mark k =
    picked (λ (s : Suffix). k ≤ s.end) (eqb (get_or text k 0) mark) _ _ (let h = numeral_on 65535 text (k + 1) in omega arith) (omega arith)

-- a string that is closed
abbrev Closes : ℕ → Str → Type 0
Closes k (whole bs e) = k ≤ e
Closes k broken = Nothing

closes_on : (b k : ℕ) (s : Str) → Closes (k + 1) s → Closes k (prefixed b s)
closes_on b k (whole bs e) h = omega arith
closes_on b k broken h = refl

closes_back : (k : ℕ) (s : Str) → Closes (k + 1) s → Closes k s
closes_back k (whole bs e) h = omega arith
closes_back k broken h = refl

string_on : (s : List ℕ) (skip k : ℕ) → Closes k (string_from s skip k)
unfolding string_from
string_on [] skip k = refl
string_on (b ∷ s) (suc skip) k = closes_back k (string_from s skip (k + 1)) (string_on s skip (k + 1))
string_on (b ∷ s) zero k = bool_cases (eqb b 34)
    (λ e. rw (e, string_from) (omega arith))
    (λ e. bool_cases (eqb b 92)
    (λ f. bool_cases (is_hex (get_or s 0 0) && is_hex (get_or s 1 0))
    (λ g. rw (e, f, g, string_from) (closes_on (hex_of (get_or s 0 0) * 16 + hex_of (get_or s 1 0)) k (string_from s 2 (k + 1)) (string_on s 2 (k + 1))))
    (λ g. rw (e, f, g, string_from) refl))
    (λ f. bool_cases (is_raw b)
    (λ g. rw (e, f, g, string_from) (closes_on b k (string_from s 0 (k + 1)) (string_on s 0 (k + 1))))
    (λ g. rw (e, f, g, string_from) refl)))

abbrev Quotes : ℕ → Option (ℕ × ℕ) → Type 0
Quotes k (Some (n, e)) = k ≤ e
Quotes k None = Nothing

quoted_on : (text : List ℕ) (k : ℕ) → Quotes k (quoted_at text k)
unfolding quoted_at
quoted_on text k = go (string_at text k) (string_on (drop k text) 0 k)
  where
    go : (s : Str) → Closes k s → Quotes k (sized s)
    go (whole bs e) h = h
    go broken h = refl

-- A TOKEN read from the place k on leaves the reader at n
pub record Moved (k : ℕ) (t : Token) (n : ℕ) : Type 0 where
  pub on : k ≤ n
  pub past : is_sort line_end t ≡ true → k < n

abbrev pub Moves : ℕ → Took Token → Type 0
Moves k (Err g) = Nothing
Moves k (Ok (t, r)) = Moved k t r.next.at

-- what moves on from a place moves on from those before it
pub moves_from : (j k : ℕ) (s : Took Token) → j ≤ k → Moves k s → Moves j s
moves_from j k (Err g) l h = refl
moves_from j k (Ok (t, r)) l h = record { on = omega (arith, h.on); past = λ e. omega (arith, h.past e) }

-- a token that is no line end
other : (k : ℕ) (t : Token) (n : ℕ) → is_sort line_end t ≡ false → k ≤ n → Moved k t n
other k t n e h = record { on = h; past = λ p. never_both p e }

line : (k : ℕ) (t : Token) (n : ℕ) → k < n → Moved k t n
line k t n h = record { on = omega arith; past = λ p. h }

module _ (k : ℕ) where
  either : (b : Bool) (x y : Took Token) → Moves k x → Moves k y → Moves k (pick b x y)
  either b x y p q = picked (Moves k) b x y p q

  judged_moves : (malformed large : Bool) (s : Took Token) → Moves k s → Moves k (judged malformed large k s)
  judged_moves m l s n = either m (refused 5 k) (pick l (refused 6 k) s) refl (either l (refused 6 k) s refl n)

  single_moves : (sort from : ℕ) (i : Numeral) (value end : ℕ) → eqb sort line_end ≡ false → k ≤ end → Moves k (single sort k from i value end)
  single_moves sort from i value end e h = judged_moves (eqb i.end from) i.large _ (other k _ end e h)

module _ (text : List ℕ) (k : ℕ) where
  constant_moves : Moves k (constant_of text k)
  unfolding constant_of
  constant_moves =
      let e = span_end is_constant (drop k text) k in
      let c = suffix_at text 42 e in
      judged_moves k c.broken c.large _ (other k _ c.end refl (let h = span_on is_constant (drop k text) k in let l = suffix_on text 42 e in omega arith))

  cell_moves : Moves k (cell_of text k)
  unfolding cell_of
  cell_moves =
      let i = numeral_at 65535 text (k + 1) in
      let o = suffix_at text 43 i.end in
      let w = suffix_at text 58 o.end in
      let c = suffix_at text 42 w.end in
      let hi = numeral_on 65535 text (k + 1) in
      let ho = suffix_on text 43 i.end in
      let hw = suffix_on text 58 o.end in
      let hc = suffix_on text 42 w.end in
      either k (opens_placeholder text i.end) _ _ (single_moves k placeholder (k + 1) i i.value (i.end + 2) refl (omega arith))
      (judged_moves k (eqb i.end (k + 1) || (o.broken || (w.broken || c.broken))) (i.large || (o.large || (w.large || c.large))) _ (other k _ c.end refl (omega arith)))

  named_moves : (q : Option (ℕ × ℕ)) → Quotes (k + 2) q → Moves k (named_from text k q)
  named_moves (Some (n, e)) h =
      let o = suffix_at text 43 e in
      let w = suffix_at text 58 e in
      let ho = suffix_on text 43 e in
      let hw = suffix_on text 58 e in
      let end : k ≤ pick o.given o.end w.end = picked (λ (n : ℕ). k ≤ n) o.given o.end w.end (omega arith) (omega arith) in
      judged_moves k (o.broken || w.broken) (o.large || w.large) _ (other k _ _ refl end)
  named_moves None h = refl

  io_moves : Moves k (io_of text k)
  unfolding io_of
  io_moves =
      let w = suffix_at text 58 (k + 2) in
      either k (eqb (get_or text (k + 1) 0) 95) _ _ (judged_moves k w.broken w.large _ (other k _ w.end refl (let h = suffix_on text 58 (k + 2) in omega arith)))
      (either k (eqb (get_or text (k + 1) 0) 34) _ _ (named_moves (quoted_at text (k + 2)) (quoted_on text (k + 2))) refl)

  number_moves : Moves k (number_of text k)
  unfolding number_of
  number_moves =
      let m = numeral_at 2147483648 text (k + 2) in
      let i = numeral_at 2147483647 text (k + 1) in
      let hm = numeral_on 2147483648 text (k + 2) in
      let hi = numeral_on 2147483647 text (k + 1) in
      either k (eqb (get_or text (k + 1) 0) 45) _ _ (single_moves k number (k + 2) m (signed_of true m.value) m.end refl (omega arith))
      (single_moves k number (k + 1) i (signed_of false i.value) i.end refl (omega arith))

  string_moves : (q : Option (ℕ × ℕ)) → Quotes (k + 1) q → Moves k (string_step k q)
  string_moves (Some (n, e)) h = other k _ e refl (omega arith)
  string_moves None h = refl

  long_moves : (b : ℕ) → Moves k (long_of text k b)
  unfolding long_of word_of meta_of
  long_moves b =
      let i = numeral_at 65535 text (k + 1) in
      either k (is_letter b) _ _ (other k _ _ refl (span_on is_letter (drop k text) k))
      (either k (is_constant b) _ _ constant_moves
      (either k (eqb b 35) _ _ number_moves
      (either k (eqb b 33) _ _ (single_moves k meta (k + 1) i i.value i.end refl (let h = numeral_on 65535 text (k + 1) in omega arith))
      (either k (eqb b 38) _ _ io_moves
      (either k (eqb b 37) _ _ cell_moves
      (either k (eqb b 34) _ _ (string_moves (quoted_at text (k + 1)) (quoted_on text (k + 1))) refl))))))

  from_moves : (s : List ℕ) → Moves k (token_from text k s)
  unfolding token_from comment_end
  from_moves [] = other k _ k refl (omega arith)
  from_moves (b ∷ s) =
      either k (is_feed b) _ _ (line k _ _ (omega arith))
      (either k (eqb b 13) _ _ (line k _ _ (omega arith))
      (either k (eqb b 59) _ _ (line k _ _ (let h = span_on (λ b. not (is_feed b)) s (k + 1) in omega arith))
      (either k (is_special b) _ _ (other k _ _ refl (omega arith))
      (either k (follows text k) _ _ refl (long_moves b)))))

-- THE TOKEN from the place on
pub token_moves : (text : List ℕ) (k : ℕ) → Moves k (token_at text k)
unfolding token_at
token_moves text k =
    let j = span_end is_white (drop k text) k in
    moves_from k j (token_from text j (drop j text)) (span_on is_white (drop k text) k) (from_moves text j (drop j text))

-- the same between brackets
pub inside_moves : (text : List ℕ) (k : ℕ) → Moves k (inside_at text k)
unfolding inside_at
inside_moves text k =
    let j = inside_end (drop k text) false k in
    moves_from k j (token_from text j (drop j text)) (inside_on (drop k text) false k) (from_moves text j (drop j text))
