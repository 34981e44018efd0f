-- The canonical text is sound as a whole: plain bytes, the last a line feed.
use Rattle.std.specs.Prelude.{Ok}
use Prim.Native.Nat.{ℕ, zero, suc, ◌+◌, ◌-◌, ◌/◌, ◌%◌, ◌^◌, ◌<◌, ◌≤◌}
use mathlib.Core.Path.{◌≡◌, refl}
use mathlib.Core.Bool.{Bool, true, not, ◌&&◌}
use mathlib.Core.List.{List, [], ◌∷◌, ◌++◌}
use mathlib.Core.Option.{none, some}
use native.Mathlib.Omega.{arith}
use native.Mathlib.Nat.{div-lt_iff_lt-mul, mod-lt}
use lib.Dec.{leb, eqb}
use lib.ListN.{length}
use borrow.Author.Tests.{le-leb, lt-leb, leb-true, leb-false, le-ltb, eqb-false, ne_eqb}
use Rattle.ground.specs.Lists.{every}
use Rattle.ground.proofs.Bools.{bool_cases, never_both, and_true, every_first, every_more}
use Rattle.scanning.specs.Whole.{whole_of, bad_from, tail_of, sequences, ends_in_feed}
use Rattle.writing.specs.Decimal.{digits}
use Rattle.writing.proofs.Digits.{ten_pos}

-- below 0x80, and no carriage return
abbrev pub plain_byte : ℕ → Bool
plain_byte b = leb b 0x7f && not (eqb b 13)

-- n plain bytes at least, the last a line feed
pub record Fine (n : ℕ) (s : List ℕ) : Type 0 where
  pub plain : every plain_byte s ≡ true
  pub feed : ends_in_feed s ≡ true
  pub long : n ≤ length s

-- the same of lines, which may be none
pub record Lined (n : ℕ) (s : List ℕ) : Type 0 where
  pub plain : every plain_byte s ≡ true
  pub feed : ends_in_feed (10 ∷ s) ≡ true
  pub long : n ≤ length s

feed_more : (b : ℕ) (s : List ℕ) → ends_in_feed s ≡ true → ends_in_feed (b ∷ s) ≡ true
unfolding ends_in_feed
feed_more b [] h = never_both h refl
feed_more b (c ∷ s) h = h

pub fine_more : {n : ℕ} (b : ℕ) {s : List ℕ} → plain_byte b ≡ true → Fine n s → Fine n (b ∷ s)
fine_more b {s} p f = record { plain = every_more plain_byte b s p f.plain; feed = feed_more b s f.feed; long = omega (arith, f.long) }

pub fine_front : {n : ℕ} (xs : List ℕ) {s : List ℕ} → every plain_byte xs ≡ true → Fine n s → Fine n (xs ++ s)
fine_front [] p f = f
fine_front (x ∷ xs) p f = let e = every_first plain_byte x xs p in fine_more x e.0 (fine_front xs e.1 f)

-- a line behind lines: its end before the rest, and its first byte
pub line_end : {n : ℕ} {s : List ℕ} → Lined n s → Fine n (10 ∷ s)
line_end {n} {s} f = record { plain = every_more plain_byte 10 s refl f.plain; feed = f.feed; long = omega (arith, f.long) }

pub line_first : {n : ℕ} (b : ℕ) {s : List ℕ} → plain_byte b ≡ true → Fine n s → Lined (n + 1) (b ∷ s)
line_first b {s} p f =
    record { plain = every_more plain_byte b s p f.plain; feed = feed_more 10 (b ∷ s) (feed_more b s f.feed); long = omega (arith, f.long) }

pub no_lines : Lined 0 []
unfolding ends_in_feed every
no_lines = record { plain = refl; feed = refl; long = omega arith }

-- one line at least
pub lined_fine : {n : ℕ} (s : List ℕ) → 1 ≤ n → Lined n s → Fine n s
unfolding ends_in_feed
lined_fine [] l f = absurd (omega (arith, f.long))
lined_fine (b ∷ s) l f = record { plain = f.plain; feed = f.feed; long = f.long }

-- a byte that is plain by its size
pub plain_small : (b : ℕ) → b ≤ 0x7f → (b ≡ 13 → ⊥) → plain_byte b ≡ true
plain_small b l n = rw (le-leb b 0x7f l, ne_eqb b 13 n)

-- one plain byte is a sequence by itself
plain_alone : (b : ℕ) → plain_byte b ≡ true → tail_of sequences b ≡ some []
unfolding tail_of
plain_alone b p =
    let e = and_true (leb b 0x7f) (not (eqb b 13)) p in
    let l = leb-true b 0x7f e.0 in
    bool_cases (leb b 12)
    (λ f. let z = le-leb 0 b (omega arith) in rw (f, tail_of, z))
    (λ f. let g = leb-false b 12 f in bool_cases (eqb b 13)
    (λ d. never_both e.1 (rw d))
    (λ d. let n : b ≡ 13 → ⊥ = eqb-false b 13 d in let m : 14 ≤ b = above b g n in
    let z = le-leb 0 b (omega arith) in rw (f, tail_of, z, le-leb 13 b (omega arith), lt-leb b 13 (omega arith), tail_of, le-leb 14 b m, e.0, tail_of)))
  where
    above : (b : ℕ) → 12 < b → (b ≡ 13 → ⊥) → 14 ≤ b
    above b g n = bool_cases (leb 14 b) (λ e. leb-true 14 b e) (λ e. let h = leb-false 14 b e in absurd (n (omega arith)))

plain_never_bad : (s : List ℕ) (from k : ℕ) → every plain_byte s ≡ true → bad_from s [] from k ≡ none
unfolding bad_from
plain_never_bad [] from k p = refl
plain_never_bad (b ∷ s) from k p = let e = every_first plain_byte b s p in rw (plain_alone b e.0, bad_from) (plain_never_bad s k (k + 1) e.1)

-- THE WHOLE TEXT IS SOUND where it is plain, ends in a line feed and is not too long
pub fine_sound : {n : ℕ} (s : List ℕ) → length s ≤ 65536 → Fine n s → whole_of s ≡ Ok tt
unfolding whole_of
fine_sound s l f = rw (le-ltb 65536 (length s) l, plain_never_bad s 0 0 f.plain, f.feed)

-- DIGITS are plain
pub digits_plain : (j n : ℕ) → n < 10 ^ suc j → every plain_byte (digits j n) ≡ true
unfolding digits every
digits_plain zero n h = every_more plain_byte (48 + n) [] (plain_small (48 + n) (omega arith) (λ e. omega arith)) refl
digits_plain (suc j) n h =
    let d : n / 10 ^ suc j < 10 = (div-lt_iff_lt-mul (ten_pos (suc j))).1 (omega arith) in
    every_more plain_byte (48 + n / 10 ^ suc j) (digits j (n % 10 ^ suc j)) (plain_small (48 + n / 10 ^ suc j) (omega arith) (λ e. omega arith))
    (digits_plain j (n % 10 ^ suc j) (mod-lt n (ten_pos (suc j))))
