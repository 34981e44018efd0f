-- Strings: what a byte of a string that means one more stands for, and the values of hexadecimal digits.
use Rattle.std.specs.Prelude.{Some, None}
use Prim.Native.Nat.{ℕ, ◌+◌, ◌-◌, ◌*◌, ◌<◌, ◌≤◌}
use Rattle.ground.proofs.Pairs.{some_first}
use mathlib.Core.Path.{◌≡◌, refl, ap, ◌∙◌}
use mathlib.Core.Bool.{Bool, true, false, not, ◌&&◌, ◌||◌}
use mathlib.Core.List.{List, [], ◌∷◌}
use native.Mathlib.Omega.{arith}
use lib.Dec.{T, eqb, ltb, leb, eqb→eq, leb→le}
use lib.ListN.{length, get_or}
use lib.Seq.{sets}
use borrow.Author.Tests.{lt-ltb, le-ltb, eq-eqb, ne_eqb, ltb-true, ltb-false, eqb-true, eqb-false}
use Rattle.ground.specs.Choice.{pick}
use Rattle.ground.specs.Regions.{zeros}
use Rattle.ground.proofs.Bools.{bool_cases, never_both, and_true, and_first, and_second}
use Rattle.ground.proofs.Rest.{rest_end, past_zero}
use Rattle.ground.proofs.Tables.{at}
use Rattle.signs.specs.Bytes.{class_from, class_of, is_hex, is_raw, hex_of}
use Rattle.signs.specs.Pieces.{Str, whole, broken, prefixed, string_from, string_at, bytes_in, decoded, sized}
use Rattle.signs.specs.Decoding.{meant_at}
use Rattle.signs.specs.declared.pieces.Meant.{Meant}
use Rattle.signs.proofs.Laws.{string_close, string_escape, string_raw}

-- a hexadecimal digit below 58 is `0` to `9`, and one from there on `a` to `f`
abbrev valued : ℕ → Bool
valued b = pick (ltb b 58) (leb 48 b && eqb (hex_of b) (b - 48)) ((leb 87 b && leb b 102) && eqb (hex_of b) (b - 87))

hex_valued : (b : ℕ) → b < 256 → is_hex b ≡ true → T (valued b)
unfolding class_of class_from zeros
hex_valued b h e = rw e at (at (λ k x. not (is_hex k) || valued k) (zeros 256) 0 tt b h)

module _ (b : ℕ) (h : b < 256) (e : is_hex b ≡ true) where
  pub hex_low : b < 58 → (48 ≤ b) × (hex_of b ≡ b - 48)
  hex_low l =
      let t : T (leb 48 b && eqb (hex_of b) (b - 48)) = rw (lt-ltb b 58 l) at (hex_valued b h e) in
      (leb→le 48 b (and_first (leb 48 b) _ t), eqb→eq (hex_of b) (b - 48) (and_second (leb 48 b) _ t))

  pub hex_high : 58 ≤ b → (87 ≤ b) × (b ≤ 102) × (hex_of b ≡ b - 87)
  hex_high l =
      let t : T ((leb 87 b && leb b 102) && eqb (hex_of b) (b - 87)) = rw (le-ltb b 58 l) at (hex_valued b h e) in
      let u = and_first (leb 87 b && leb b 102) _ t in
      (leb→le 87 b (and_first (leb 87 b) _ u), leb→le b 102 (and_second (leb 87 b) _ u), eqb→eq (hex_of b) (b - 87) (and_second (leb 87 b && leb b 102) _ t))

-- a digit that is read stands in the text, since 0 is read past the end
pub hex_inside : (s : List ℕ) (k : ℕ) → is_hex (get_or s k 0) ≡ true → k < length s
unfolding class_of class_from
hex_inside s k e = bool_cases (ltb k (length s)) (λ l. ltb-true k (length s) l)
    (λ l. never_both (rw (past_zero s k (ltb-false k (length s) l)) at e) refl)

-- a string that means a byte before the others is whole
prefixed_bytes : (b : ℕ) (x : Str) → 0 < length (bytes_in (prefixed b x)) → bytes_in (prefixed b x) ≡ b ∷ bytes_in x
prefixed_bytes b (whole bs e) h = refl
prefixed_bytes b broken h = absurd (omega arith)

-- a place of the text at which a string means one more byte
module _ (s : List ℕ) (i : ℕ) (h : 0 < length (decoded s i)) where
  pub meant_inside : i < length s
  unfolding string_from
  meant_inside = bool_cases (ltb i (length s)) (λ l. ltb-true i (length s) l)
      (λ l. let z : 0 < 0 = rw (rest_end s i (ltb-false i (length s) l)) at h in absurd (omega arith))

  unclosed : eqb (get_or s i 0) 34 ≡ false
  unclosed = bool_cases (eqb (get_or s i 0) 34) (λ q. let z : 0 < 0 = rw (string_close s i meant_inside q) at h in absurd (omega arith)) (λ q. q)

  module _ (f : get_or s i 0 ≡ 92 → ⊥) where
    raw : is_raw (get_or s i 0) ≡ true
    raw = bool_cases (is_raw (get_or s i 0)) (λ r. r)
        (λ r. let z : 0 < 0 = rw (string_raw s i meant_inside false unclosed (ne_eqb _ 92 f) r) at h in absurd (omega arith))

    -- a byte that begins no escape means itself
    raw_meant : decoded s i ≡ get_or s i 0 ∷ decoded s (i + 1)
    raw_meant =
        let e = string_raw s i meant_inside true unclosed (ne_eqb _ 92 f) raw in
        ap bytes_in e ∙ prefixed_bytes (get_or s i 0) (string_at s (i + 1)) (rw e at h)

    pub raw_next : record { byte = get_or s i 0; end = i + 1 } ≡ meant_at s i
    unfolding meant_at
    raw_next = rw (raw_meant, ne_eqb _ 92 f, raw)

  module _ (f : get_or s i 0 ≡ 92) where
    digits : is_hex (get_or s (i + 1) 0) && is_hex (get_or s (i + 2) 0) ≡ true
    digits = bool_cases (is_hex (get_or s (i + 1) 0) && is_hex (get_or s (i + 2) 0)) (λ p. p)
        (λ p. let z : 0 < 0 = rw (string_escape s i meant_inside false unclosed (eq-eqb _ 92 f) p) at h in absurd (omega arith))

    -- both of an escape's digits are there
    pub escape_high : is_hex (get_or s (i + 1) 0) ≡ true
    escape_high = (and_true (is_hex (get_or s (i + 1) 0)) _ digits).0

    pub escape_low : is_hex (get_or s (i + 2) 0) ≡ true
    escape_low = (and_true (is_hex (get_or s (i + 1) 0)) _ digits).1

    pub escape_inside : i + 2 < length s
    escape_inside = hex_inside s (i + 2) escape_low

    -- and it means the byte that they make
    escape_meant : decoded s i ≡ (hex_of (get_or s (i + 1) 0) * 16 + hex_of (get_or s (i + 2) 0)) ∷ decoded s (i + 3)
    escape_meant =
        let e = string_escape s i meant_inside true unclosed (eq-eqb _ 92 f) digits in
        ap bytes_in e ∙ prefixed_bytes _ (string_at s (i + 3)) (rw e at h)

    pub escape_next : record { byte = hex_of (get_or s (i + 1) 0) * 16 + hex_of (get_or s (i + 2) 0); end = i + 3 } ≡ meant_at s i
    unfolding meant_at
    escape_next = rw (escape_meant, eq-eqb _ 92 f, digits)

  -- what a string means goes on behind its next byte
  pub next_meant : (m : Meant) → m ≡ meant_at s i → decoded s i ≡ m.byte ∷ decoded s m.end
  next_meant m e = bool_cases (eqb (get_or s i 0) 92)
      (λ q. rw (e, ← escape_next (eqb-true _ 92 q)) (escape_meant (eqb-true _ 92 q)))
      (λ q. rw (e, ← raw_next (eqb-false _ 92 q)) (raw_meant (eqb-false _ 92 q)))

-- how many bytes a string means is its size, and none where it is malformed
pub closed_size : (x : Str) (n e : ℕ) → Some (n, e) ≡ sized x → n ≡ length (bytes_in x)
closed_size (whole bs k) n e h = some_first h
closed_size broken n e h = let z : ◌≡◌ {A = ℕ} 0 1 = cc in absurd (omega arith)

pub malformed_size : (x : Str) → None ≡ sized x → 0 ≡ length (bytes_in x)
malformed_size (whole bs k) h = let z : ◌≡◌ {A = ℕ} 0 1 = cc in absurd (omega arith)
malformed_size broken h = refl

-- nothing is written where nothing is left
pub sets_none : (l : List ℕ) (k : ℕ) (xs : List ℕ) → length xs ≡ 0 → sets l k xs ≡ l
sets_none l k [] h = refl
sets_none l k (x ∷ xs) h = absurd (omega arith)
