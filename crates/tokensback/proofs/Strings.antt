-- Strings back: the bytes of a printed string, raw or escaped, read again.
use Prim.Native.Nat.{ℕ, ◌+◌, ◌*◌, ◌/◌, ◌%◌, ◌<◌}
use mathlib.Core.Path.{◌≡◌, refl, ap, ◌∙◌}
use mathlib.Core.Bool.{Bool, true, false, not, ◌&&◌, ◌||◌}
use mathlib.Core.List.{List, [], ◌∷◌}
use native.Mathlib.Omega.{arith}
use native.Mathlib.Nat.{mod-lt, div-add-mod', div-lt_iff_lt-mul}
use lib.Dec.{T, eqb, eqb→eq}
use lib.ListN.{drop}
use borrow.Author.Tests.{ltb-true, not-true}
use Rattle.ground.specs.Lists.{every}
use Rattle.ground.specs.Regions.{zeros}
use Rattle.ground.proofs.Bools.{bool_cases, and_first, and_second, every_first}
use Rattle.ground.proofs.Regions.{part_next}
use Rattle.ground.proofs.Tables.{at}
use Rattle.signs.specs.Bytes.{class_from, class_of, is_hex, is_raw, hex_of}
use Rattle.signs.specs.Pieces.{whole, prefixed, string_from, string_at}
use Rattle.netlist.specs.Rules.{is_byte}
use Rattle.writing.specs.Words.{raw_byte, hex_digit, escaped}
use Rattle.tokensback.proofs.Places.{past_byte}

-- a byte that is printed raw is read raw
abbrev raw_test : ℕ → Bool
raw_test b = not (eqb b 34) && (not (eqb b 92) && is_raw b)

raw_tested : (b : ℕ) → b < 256 → raw_byte b ≡ true → T (raw_test b)
unfolding class_of class_from zeros
raw_tested b h e = rw e at (at (λ k x. not (raw_byte k) || raw_test k) (zeros 256) 0 tt b h)

-- the digits of an escape are hexadecimal ones, and mean what was printed
abbrev hex_test : ℕ → Bool
hex_test d = is_hex (hex_digit d) && eqb (hex_of (hex_digit d)) d

hex_tested : (d : ℕ) → d < 16 → T (hex_test d)
unfolding class_of class_from zeros
hex_tested d h = at (λ k x. hex_test k) (zeros 16) 0 tt d h

-- a computed test
pub told : (a : Bool) → T a → a ≡ true
told true t = refl
told false t = absurd t

-- the bytes bs stand at the place as a string's, and s is left behind its end
pub record Strung (text : List ℕ) (k : ℕ) (bs s : List ℕ) : Type 0 where
  pub end : ℕ
  pub is : string_from (drop k text) 0 k ≡ whole bs end
  pub rest : drop end text ≡ s

-- one byte more: raw, and escaped
raw_on : (b : ℕ) (s : List ℕ) (k : ℕ) → b < 256 → raw_byte b ≡ true → string_from (b ∷ s) 0 k ≡ prefixed b (string_from s 0 (k + 1))
unfolding string_from
raw_on b s k h e =
    let t = raw_tested b h e in
    let u = and_second (not (eqb b 34)) _ t in
    let o = not-true (eqb b 34) (told (not (eqb b 34)) (and_first (not (eqb b 34)) _ t)) in
    let f = not-true (eqb b 92) (told (not (eqb b 92)) (and_first (not (eqb b 92)) _ u)) in
    let r = told (is_raw b) (and_second (not (eqb b 92)) _ u) in
    rw (o, string_from, f, string_from, r, string_from)

-- the digits c and d make the byte b
escape_of : (b c d : ℕ) (s : List ℕ) (k : ℕ) → is_hex c ≡ true → is_hex d ≡ true → hex_of c * 16 + hex_of d ≡ b → string_from (92 ∷ c ∷ d ∷ s) 0 k ≡ prefixed b (string_from s 0 (k + 3))
unfolding string_from
escape_of b c d s k p q e =
    let n : k + 1 + 1 + 1 ≡ k + 3 = omega arith in
    rw (p, q, string_from, e, n)

escape_on : (b : ℕ) (s : List ℕ) (k : ℕ) → b < 256 → string_from (92 ∷ hex_digit (b / 16) ∷ hex_digit (b % 16) ∷ s) 0 k ≡ prefixed b (string_from s 0 (k + 3))
escape_on b s k h =
    let t = hex_tested (b / 16) ((div-lt_iff_lt-mul (omega arith)).1 (omega arith)) in
    let u = hex_tested (b % 16) (mod-lt b (omega arith)) in
    let v : hex_of (hex_digit (b / 16)) ≡ b / 16 = eqb→eq _ _ (and_second (is_hex (hex_digit (b / 16))) _ t) in
    let w : hex_of (hex_digit (b % 16)) ≡ b % 16 = eqb→eq _ _ (and_second (is_hex (hex_digit (b % 16))) _ u) in
    escape_of b (hex_digit (b / 16)) (hex_digit (b % 16)) s k (told _ (and_first (is_hex (hex_digit (b / 16))) _ t)) (told _ (and_first (is_hex (hex_digit (b % 16))) _ u)) (rw (v, w) (div-add-mod' b 16))

-- a string goes on at the place j with what is left of it
more : {text : List ℕ} {j k b : ℕ} {bs s : List ℕ} → string_at text k ≡ prefixed b (string_at text j) → Strung text j bs s → Strung text k (b ∷ bs) s
more {b = b} e r = record { end = r.end; is = e ∙ ap (prefixed b) r.is; rest = r.rest }

-- a string is read as its bytes
pub string_read : (text : List ℕ) (k : ℕ) (bs s : List ℕ) → every is_byte bs ≡ true → drop k text ≡ escaped bs (34 ∷ s) → Strung text k bs s
unfolding escaped string_from
string_read text k [] s p h = record { end = k + 1; is = rw h; rest = past_byte text k h }
string_read text k (b ∷ bs) s p h =
    let f = every_first is_byte b bs p in
    let l = ltb-true b 256 f.0 in
    let x = escaped bs (34 ∷ s) in
    bool_cases (raw_byte b)
    (λ e.
    let g : drop k text ≡ b ∷ x = rw (e, escaped) at h in
    let i : drop (k + 1) text ≡ x = past_byte text k g in
    more (rw (g, i) (raw_on b x k l e)) (string_read text (k + 1) bs s f.1 i))
    (λ e.
    let g : drop k text ≡ 92 ∷ hex_digit (b / 16) ∷ hex_digit (b % 16) ∷ x = rw (e, escaped) at h in
    let i : drop (k + 3) text ≡ x = part_next text k (92 ∷ hex_digit (b / 16) ∷ hex_digit (b % 16) ∷ []) x g in
    more (rw (g, i) (escape_on b x k l)) (string_read text (k + 3) bs s f.1 i))
