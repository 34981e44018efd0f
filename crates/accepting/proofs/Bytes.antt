-- Document 01, Text: the bytes of a text that is UTF-8 are bytes, and so are those that a string of it means; the characters of a
-- constant are trits.
use Rattle.std.specs.Prelude.{Ok}
use mathlib.Core.Path.{◌≡◌, refl, sym}
use mathlib.Core.Bool.{Bool, true, false, not, ◌&&◌, ◌||◌}
use mathlib.Core.List.{List, [], ◌∷◌, map}
use mathlib.Core.Option.{Option, none, some}
use Prim.Native.Nat.{ℕ, zero, suc, ◌+◌, ◌-◌, ◌*◌, ◌<◌, ◌≤◌}
use native.Mathlib.Omega.{arith}
use lib.Dec.{T, ltb, eqb}
use lib.ListN.{length, take, drop, get_or}
use borrow.Author.Tests.{ltb-true, ltb-false, lt-ltb}
use Rattle.ground.specs.Lists.{every}
use Rattle.ground.specs.Regions.{zeros, part}
use Rattle.ground.proofs.Bools.{bool_cases, and_true, every_first, every_more, every_at}
use Rattle.ground.proofs.Tables.{at}
use Rattle.signs.specs.Bytes.{Range, in_range, class_from, class_of, is_constant, is_hex, is_raw, hex_of, trit_of}
use Rattle.signs.specs.Pieces.{span_end, Str, whole, broken, prefixed, string_from, bytes_in, decoded}
use Rattle.scanning.specs.Whole.{Sequence, sequences, tail_of, lacks_past, began_at, bad_from, bad_at, ending, unsound, whole_of}
use Rattle.signs.proofs.Bytes.{within_true}
use Rattle.signs.proofs.Strings.{hex_low, hex_high, hex_inside}
use Rattle.netlist.specs.Rules.{is_byte, is_trit}

never_some : {A P : Type 0} (x : A) → none ≡ some x → P
never_some x e = let z : ◌≡◌ {A = ℕ} 0 1 = cc in absurd (omega arith)

-- RANGES OF BYTES
abbrev low : Range → Bool
low r = ltb r.high 256

abbrev low_sequence : Sequence → Bool
low_sequence q = low q.lead && every low q.tail

range_byte : (r : Range) (b : ℕ) → low r ≡ true → in_range r b ≡ true → is_byte b ≡ true
range_byte r b l h = let p = within_true r.low r.high b h in let q = ltb-true r.high 256 l in lt-ltb b 256 (omega arith)

tail_bytes : (qs : List Sequence) (b : ℕ) (t : List Range) → every low_sequence qs ≡ true → tail_of qs b ≡ some t → (is_byte b ≡ true) × (every low t ≡ true)
unfolding tail_of
tail_bytes [] b t h e = never_some t e
tail_bytes (q ∷ qs) b t h e =
    let f = every_first low_sequence q qs h in
    let g = and_true (low q.lead) (every low q.tail) f.0 in
    bool_cases (in_range q.lead b)
    (λ i. let s : some q.tail ≡ some t = rw (i, tail_of) at e in let s' : q.tail ≡ t = cc in (range_byte q.lead b g.0 i, rw (← s') g.1))
    (λ i. tail_bytes qs b t f.1 (rw (i, tail_of) at e))

all_low : every low_sequence sequences ≡ true
unfolding every
all_low = refl

past_bytes : (rs : List Range) (b : ℕ) (t : List Range) → every low rs ≡ true → lacks_past rs b ≡ some t → (is_byte b ≡ true) × (every low t ≡ true)
past_bytes [] b t h e = tail_bytes sequences b t all_low e
past_bytes (r ∷ rs) b t h e =
    let f = every_first low r rs h in
    bool_cases (in_range r b)
    (λ i. let s : some rs ≡ some t = rw i at e in let s' : rs ≡ t = cc in (range_byte r b f.0 i, rw (← s') f.1))
    (λ i. never_some t (rw i at e))

-- THE BYTES OF A SOUND TEXT
sound_from : (s : List ℕ) (rs : List Range) (from k : ℕ) → every low rs ≡ true → bad_from s rs from k ≡ none → every is_byte s ≡ true
unfolding bad_from every
sound_from [] rs from k h e = refl
sound_from (b ∷ s) rs from k h e = go (lacks_past rs b) refl (λ t. sound_from s t (began_at rs from k) (k + 1))
  where
    go : (x : Option (List Range)) → lacks_past rs b ≡ x → ((t : List Range) → every low t ≡ true → bad_from s t (began_at rs from k) (k + 1) ≡ none → every is_byte s ≡ true) → every is_byte (b ∷ s) ≡ true
    go none f ih = never_some (began_at rs from k) (sym (rw (f, bad_from) at e))
    go (some t) f ih = let p = past_bytes rs b t h f in every_more is_byte b s p.0 (ih t p.1 (rw (f, bad_from) at e))

never_sound : {P : Type 0} (n k : ℕ) → unsound n k ≡ Ok tt → P
never_sound n k e = let z : ◌≡◌ {A = ℕ} 0 1 = cc in absurd (omega arith)

pub sound_bytes : (text : List ℕ) → whole_of text ≡ Ok tt → every is_byte text ≡ true
unfolding whole_of every
sound_bytes text e = bool_cases (ltb 65536 (length text))
    (λ l. never_sound 2 65536 (rw l at e))
    (λ l. go (bad_at text) refl (rw l at e))
  where
    go : (x : Option ℕ) → bad_at text ≡ x → ending text x ≡ Ok tt → every is_byte text ≡ true
    go none f s = sound_from text [] 0 0 refl f
    go (some k) f s = never_sound 3 k s

-- PARTS of lists whose elements all pass a test
module _ {A : Type 0} (p : A → Bool) where
  pub every_drop : (k : ℕ) (xs : List A) → every p xs ≡ true → every p (drop k xs) ≡ true
  every_drop zero xs h = h
  every_drop (suc k) [] h = h
  every_drop (suc k) (x ∷ xs) h = every_drop k xs (every_first p x xs h).1

  pub every_take : (k : ℕ) (xs : List A) → every p xs ≡ true → every p (take k xs) ≡ true
  unfolding every
  every_take zero xs h = refl
  every_take (suc k) [] h = refl
  every_take (suc k) (x ∷ xs) h = let f = every_first p x xs h in every_more p x (take k xs) f.0 (every_take k xs f.1)

  -- .. and mapped, where each that passes is mapped to one that passes
  pub every_map : {B : Type 0} (q : B → Bool) (f : A → B) → ((x : A) → p x ≡ true → q (f x) ≡ true) → (xs : List A) → every p xs ≡ true → every q (map f xs) ≡ true
  unfolding every
  every_map q f on [] h = refl
  every_map q f on (x ∷ xs) h = let g = every_first p x xs h in every_more q (f x) (map f xs) (on x g.0) (every_map q f on xs g.1)

  -- .. and of both of two tests
  pub every_both : (q r : A → Bool) → ((x : A) → p x ≡ true → q x ≡ true → r x ≡ true) → (xs : List A) → every p xs ≡ true → every q xs ≡ true → every r xs ≡ true
  unfolding every
  every_both q r on [] h k = refl
  every_both q r on (x ∷ xs) h k =
      let f = every_first p x xs h in
      let g = every_first q x xs k in
      every_more r x xs (on x f.0 g.0) (every_both q r on xs f.1 g.1)

-- STRINGS: an escape is a byte
hex_most : (b : ℕ) → b < 256 → is_hex b ≡ true → hex_of b < 16
hex_most b h e = bool_cases (ltb b 58)
    (λ l. let p = hex_low b h e (ltb-true b 58 l) in let q = ltb-true b 58 l in omega arith)
    (λ l. let p = hex_high b h e (ltb-false b 58 l) in omega arith)

digit_byte : (s : List ℕ) (k : ℕ) → every is_byte s ≡ true → is_hex (get_or s k 0) ≡ true → hex_of (get_or s k 0) < 16
digit_byte s k h e = hex_most (get_or s k 0) (ltb-true (get_or s k 0) 256 (every_at is_byte s 0 h k (hex_inside s k e))) e

escape_byte : (s : List ℕ) → every is_byte s ≡ true → is_hex (get_or s 0 0) && is_hex (get_or s 1 0) ≡ true → is_byte (hex_of (get_or s 0 0) * 16 + hex_of (get_or s 1 0)) ≡ true
escape_byte s h e =
    let p = and_true (is_hex (get_or s 0 0)) (is_hex (get_or s 1 0)) e in
    let a = digit_byte s 0 h p.0 in
    let b = digit_byte s 1 h p.1 in
    lt-ltb (hex_of (get_or s 0 0) * 16 + hex_of (get_or s 1 0)) 256 (omega arith)

prefixed_bytes : (b : ℕ) (x : Str) → is_byte b ≡ true → every is_byte (bytes_in x) ≡ true → every is_byte (bytes_in (prefixed b x)) ≡ true
unfolding every
prefixed_bytes b (whole bs e) p h = every_more is_byte b bs p h
prefixed_bytes b broken p h = refl

string_bytes : (s : List ℕ) (skip k : ℕ) → every is_byte s ≡ true → every is_byte (bytes_in (string_from s skip k)) ≡ true
unfolding string_from every
string_bytes [] skip k h = refl
string_bytes (b ∷ s) (suc skip) k h = string_bytes s skip (k + 1) (every_first is_byte b s h).1
string_bytes (b ∷ s) zero k h =
    let f = every_first is_byte b s h in
    let escaped = string_bytes s 2 (k + 1) f.1 in
    let raw = string_bytes s 0 (k + 1) f.1 in
    bool_cases (eqb b 34) (λ c. rw (c, string_from) refl)
    (λ c. bool_cases (eqb b 92)
    (λ d. bool_cases (is_hex (get_or s 0 0) && is_hex (get_or s 1 0))
    (λ e. rw (c, string_from, d, string_from, e, string_from) (prefixed_bytes _ (string_from s 2 (k + 1)) (escape_byte s f.1 e) escaped))
    (λ e. rw (c, string_from, d, string_from, e, string_from) refl))
    (λ d. bool_cases (is_raw b)
    (λ e. rw (c, string_from, d, string_from, e, string_from) (prefixed_bytes b (string_from s 0 (k + 1)) f.0 raw))
    (λ e. rw (c, string_from, d, string_from, e, string_from) refl)))

pub decoded_bytes : (text : List ℕ) → every is_byte text ≡ true → (k : ℕ) → every is_byte (decoded text k) ≡ true
decoded_bytes text h k = string_bytes (drop k text) 0 k (every_drop is_byte k text h)

-- CONSTANTS: each character of a span passes its test
span_least : (p : ℕ → Bool) (s : List ℕ) (k : ℕ) → k ≤ span_end p s k
unfolding span_end
span_least p [] k = omega arith
span_least p (b ∷ s) k = bool_cases (p b) (λ e. rw (e, span_end) (let h = span_least p s (k + 1) in omega arith)) (λ e. rw (e, span_end) (omega arith))

span_every : (p : ℕ → Bool) (s : List ℕ) (k : ℕ) → every p (take (span_end p s k - k) s) ≡ true
unfolding span_end every
span_every p [] k = every_take p (k - k) [] refl
span_every p (b ∷ s) k = bool_cases (p b)
    (λ e.
    let l = span_least p s (k + 1) in
    let n : span_end p s (k + 1) - k ≡ suc (span_end p s (k + 1) - (k + 1)) = omega arith in
    rw (e, span_end, n) (every_more p b (take (span_end p s (k + 1) - (k + 1)) s) e (span_every p s (k + 1))))
    (λ e. let n : k - k ≡ 0 = omega arith in rw (e, span_end, n) refl)

pub span_part : (p : ℕ → Bool) (text : List ℕ) (k : ℕ) → every p (part k (span_end p (drop k text) k - k) text) ≡ true
unfolding part
span_part p text k = span_every p (drop k text) k

abbrev constant_test : ℕ → Bool
constant_test b = not (is_constant b) || is_trit (trit_of b)

of_T : (b : Bool) → T b → b ≡ true
of_T true t = refl
of_T false t = absurd t

constant_trit : (b : ℕ) → is_byte b ≡ true → is_constant b ≡ true → is_trit (trit_of b) ≡ true
unfolding class_of class_from zeros
constant_trit b h e =
    let t : T (is_trit (trit_of b)) = rw e at (at (λ k x. constant_test k) (zeros 256) 0 tt b (ltb-true b 256 h)) in
    of_T _ t

pub constant_trits : (text : List ℕ) (k n : ℕ) → every is_byte text ≡ true → every is_constant (part k n text) ≡ true → every is_trit (map trit_of (part k n text)) ≡ true
unfolding part
constant_trits text k n h c =
    every_map (λ b. is_byte b && is_constant b) is_trit trit_of
    (λ b e. let p = and_true (is_byte b) (is_constant b) e in constant_trit b p.0 p.1) (part k n text)
    (every_both is_byte is_constant (λ b. is_byte b && is_constant b) (λ b p q. rw (p, q)) (part k n text) (every_take is_byte n (drop k text) (every_drop is_byte k text h)) c)
