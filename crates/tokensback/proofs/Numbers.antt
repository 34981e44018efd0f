-- Numbers back: the digits of a printed number, read again, give the number and end behind it.
use Prim.Native.Nat.{ℕ, zero, suc, ◌+◌, ◌-◌, ◌*◌, ◌/◌, ◌%◌, ◌^◌, ◌<◌, ◌≤◌}
use mathlib.Core.Path.{◌≡◌, refl, sym, ap, ap₂, ◌∙◌}
use mathlib.Core.Bool.{true, false}
use mathlib.Core.List.{List, [], ◌∷◌, ◌++◌}
use native.Mathlib.Omega.{arith}
use native.Mathlib.Nat.{div-add-mod', pow-le-pow_right}
use lib.Dec.{leb}
use lib.ListN.{drop, get_or, length}
use borrow.Author.Tests.{le-leb, leb-false, lt-ltb, le-ltb, ne_eqb}
use Rattle.ground.specs.Choice.{pick}
use Rattle.ground.specs.Lists.{total}
use Rattle.ground.proofs.Bools.{bool_cases}
use Rattle.ground.proofs.Regions.{part_next}
use Rattle.signs.specs.Bytes.{class_from, class_of, is_digit}
use Rattle.signs.specs.Pieces.{Digits, digits_from, numeral_at}
use Rattle.lexis.specs.Tokens.{took, plain, number, single, signed_of, number_of}
use Rattle.signs.proofs.Bytes.{digit_byte}
use Rattle.writing.specs.Decimal.{digits, places, decimal}
use Rattle.writing.specs.Words as words
use Rattle.writing.proofs.Digits.{split_law}
use Rattle.tokensback.proofs.Standing.{ends}
use Rattle.tokensback.proofs.Places.{first_left}
use Rattle.tokensback.proofs.Spans.{Fails, end_fails}

-- the characters of digits are digits
digit_char : (d : ℕ) → d < 10 → is_digit (48 + d) ≡ true
digit_char d h = sym (digit_byte (48 + d) (omega arith)) ∙ rw (le-leb 48 (48 + d) (omega arith)) (le-leb (48 + d) 57 (omega arith))

abbrev read : ℕ → ℕ → Digits
read n k = record { value = n; end = k }

-- one digit more
digit_on : (d : ℕ) (s : List ℕ) (m k : ℕ) → d < 10 → digits_from ((48 + d) ∷ s) m k ≡ digits_from s (m * 10 + d) (k + 1)
unfolding digits_from
digit_on d s m k h =
    let e : 48 + d - 48 ≡ d = omega arith in
    rw (digit_char d h, digits_from, e)

digits_stop : (s : List ℕ) (m k : ℕ) → is_digit (get_or s 0 0) ≡ false → digits_from s m k ≡ read m k
unfolding digits_from
digits_stop [] m k h = refl
digits_stop (b ∷ s) m k h = rw (h, digits_from)

shifted : (m q p w r n : ℕ) → w ≡ p * 10 → n ≡ q * p + r → (m * 10 + q) * p + r ≡ m * w + n
shifted m q p w r n f e = rw f (omega arith)

-- j + 1 digits of n behind the number m
digits_read : (j n m k : ℕ) (s : List ℕ) → n < 10 ^ suc j → is_digit (get_or s 0 0) ≡ false → digits_from (digits j n ++ s) m k ≡ read (m * 10 ^ suc j + n) (k + suc j)
unfolding digits
digits_read zero n m k s l h = digit_on n s m k (omega arith) ∙ digits_stop s (m * 10 + n) (k + 1) h
digits_read (suc j) n m k s l h =
    let p = 10 ^ suc j in
    let d = split_law n (suc j) (n / p) (n % p) l refl refl in
    let v : (m * 10 + n / p) * p + n % p ≡ m * 10 ^ suc (suc j) + n = shifted m (n / p) p (10 ^ suc (suc j)) (n % p) n (omega arith) (sym (div-add-mod' n p)) in
    let e : k + 1 + suc j ≡ k + suc (suc j) = omega arith in
    digit_on (n / p) (digits j (n % p) ++ s) m k d.small ∙ digits_read j (n % p) (m * 10 + n / p) (k + 1) s d.less h ∙ ap₂ read v e

digits_length : (j n : ℕ) → length (digits j n) ≡ suc j
unfolding digits
digits_length zero n = refl
digits_length (suc j) n = ap suc (digits_length j (n % 10 ^ suc j))

first_digit : (j n : ℕ) (s : List ℕ) → n < 10 ^ suc j → (48 ≤ get_or (digits j n ++ s) 0 0) × (get_or (digits j n ++ s) 0 0 ≤ 57)
unfolding digits
first_digit zero n s h = (omega arith, omega arith)
first_digit (suc j) n s h =
    let d = split_law n (suc j) (n / 10 ^ suc j) (n % 10 ^ suc j) h refl refl in
    (omega arith, omega arith)

-- how many digits: n lies below the power of ten past its places
tens : ℕ → ℕ → List ℕ
tens zero j = []
tens (suc c) j = 10 ^ j ∷ tens c (suc j)

tens_reach : (c j n : ℕ) → n < 10 ^ (j + c) → n < 10 ^ (j + total (λ p. pick (leb p n) 1 0) (tens c j))
unfolding tens total
tens_reach zero j n h = h
tens_reach (suc c) j n h = bool_cases (leb (10 ^ j) n)
    (λ e.
    let f : suc j + c ≡ j + suc c = omega arith in
    let g : suc j + total (λ p. pick (leb p n) 1 0) (tens c (suc j)) ≡ j + (1 + total (λ p. pick (leb p n) 1 0) (tens c (suc j))) = omega arith in
    rw (e, ← g) (tens_reach c (suc j) n (rw f h)))
    (λ e.
    let g : 10 ^ j ≤ 10 ^ (j + total (λ p. pick (leb p n) 1 0) (tens (suc c) j)) = pow-le-pow_right (omega arith) (omega arith) in
    let l = leb-false (10 ^ j) n e in
    omega arith)

pub places_reach : (n : ℕ) → n < 10 ^ 10 → n < 10 ^ suc (places n)
unfolding places tens
places_reach n h =
    let e : 1 + places n ≡ suc (places n) = omega arith in
    rw (← e) (tens_reach 9 1 n h)

-- the numeral n stands at the place, and s is left behind it
pub record Numbered (limit : ℕ) (text : List ℕ) (k n : ℕ) (s : List ℕ) : Type 0 where
  pub end : ℕ
  pub far : k < end
  pub is : numeral_at limit text k ≡ record { value = n; large = false; end = end }
  pub low : 48 ≤ get_or text k 0
  pub high : get_or text k 0 ≤ 57
  pub rest : drop end text ≡ s

-- a decimal is read as its number
pub numeral_back :
    (limit : ℕ) (text : List ℕ) (k n : ℕ) (s : List ℕ) → n ≤ limit → n < 10000000000 → is_digit (get_or s 0 0) ≡ false
    → drop k text ≡ decimal n ++ s → Numbered limit text k n s
unfolding numeral_at
numeral_back limit text k n s l m d h =
    let e : digits_from (drop k text) 0 k ≡ read n (k + suc (places n)) = rw h (digits_read (places n) n 0 k s (places_reach n m) d ∙ ap (λ (v : ℕ). read v (k + suc (places n))) (omega arith)) in
    let f = first_digit (places n) n s (places_reach n m) in
    let g : get_or text k 0 ≡ get_or (decimal n ++ s) 0 0 = first_left text k ∙ ap (λ (x : List ℕ). get_or x 0 0) h in
    record {
      end = k + suc (places n);
      far = omega arith;
      is = rw (e, le-ltb limit n l);
      low = rw g f.0;
      high = rw g f.1;
      rest = rw (← digits_length (places n) n) (part_next text k (decimal n) s h);
    }

-- the same of an index, an offset or a width
pub index_back : (text : List ℕ) (k n : ℕ) (s : List ℕ) → n ≤ 65535 → is_digit (get_or s 0 0) ≡ false → drop k text ≡ words.number n s → Numbered 65535 text k n s
unfolding words.number
index_back text k n s l d h = numeral_back 65535 text k n s l (omega arith) d h

-- no digit ends a number
pub digit_fails : Fails is_digit
unfolding class_of class_from
digit_fails = refl

-- what stands behind a number is no digit
pub digits_end : (s : List ℕ) → ends s ≡ true → is_digit (get_or s 0 0) ≡ false
digits_end s e = end_fails is_digit s digit_fails e

-- a token that is one numeral
pub single_took : {limit : ℕ} {text : List ℕ} {n : ℕ} {s : List ℕ} (sort k from : ℕ) (value : ℕ → ℕ) (i : Numbered limit text from n s)
    → (let d = numeral_at limit text from in single sort k from d (value d.value) d.end) ≡ took (plain sort k (value n) 0 0) i.end
single_took sort k from value i = rw (i.is, ne_eqb i.end from (λ e. let h = i.far in omega arith))

-- a number of 32 bits without a sign
pub positive_long : (text : List ℕ) (k n : ℕ) (s : List ℕ) (i : Numbered 2147483647 text (k + 1) n s) → number_of text k ≡ took (plain number k n 0 0) i.end
unfolding number_of
positive_long text k n s i =
    rw (ne_eqb (get_or text (k + 1) 0) 45 (λ e. let h = i.low in omega arith)) (single_took number k (k + 1) (signed_of false) i)

-- and one behind `-`
pub negative_long : (text : List ℕ) (k n : ℕ) (s : List ℕ) → 0 < n → get_or text (k + 1) 0 ≡ 45 → (i : Numbered 2147483648 text (k + 2) n s) → number_of text k ≡ took (plain number k (4294967296 - n) 0 0) i.end
unfolding number_of
negative_long text k n s l e i = rw e (single_took number k (k + 2) (signed_of true) i ∙ rw (lt-ltb 0 n l))
