-- The rules of cells at a place of their operands: how the loops over bits go on and end, for operands of any width.
use mathlib.Core.Path.{◌≡◌, refl}
use mathlib.Core.Bool.{Bool, true, false, ◌&&◌, ◌||◌}
use mathlib.Core.List.{List, [], ◌∷◌}
use Prim.Native.Nat.{ℕ, suc, ◌+◌, ◌-◌, ◌<◌, ◌≤◌, min}
use native.Mathlib.Omega.{arith}
use lib.Dec.{leb, eqb}
use lib.ListN.{length, drop, get_or, replicate}
use borrow.Author.Tests.{leb-true, leb-false, ne_eqb}
use Rattle.ground.specs.Choice.{pick}
use Rattle.ground.proofs.Bools.{bool_cases}
use Rattle.ground.proofs.Rest.{rest_cons, rest_end}
use Rattle.trit.specs.Trit.{not_of, xor_of, carry_of}
use Rattle.trit.specs.Wide.{not_bits, pairs, adc_bits, clash, agree, some_clash, all_agree, eq_bit, ult_from, slt_from, slt_bit}

-- X, so often
pub x_go : (n i : ℕ) → i < n → replicate {A = ℕ} (n - i) 2 ≡ 2 ∷ replicate (n - (i + 1)) 2
x_go n i h = let e : n - i ≡ suc (n - (i + 1)) = omega arith in rw e

pub x_all : (n : ℕ) → replicate {A = ℕ} (n - 0) 2 ≡ replicate n 2
x_all n = let e : n - 0 ≡ n = omega arith in rw e

pub x_end : (n i : ℕ) → n ≤ i → replicate {A = ℕ} (n - i) 2 ≡ []
x_end n i h = let e : n - i ≡ 0 = omega arith in rw e

module _ (a : List ℕ) (i : ℕ) where
  pub not_go : i < length a → not_bits (drop i a) ≡ not_of (get_or a i 0) ∷ not_bits (drop (i + 1) a)
  unfolding not_bits
  not_go h = rw (rest_cons a i h)

  pub not_end : length a ≤ i → not_bits (drop i a) ≡ []
  unfolding not_bits
  not_end h = rw (rest_end a i h)

-- a list that only goes on where both operands do
module _ {P : Type 0} (a b : List ℕ) (i : ℕ) where
  -- where either ends
  pub either : min (length a) (length b) ≤ i → (drop i a ≡ [] → P) → ((x : ℕ) (xs : List ℕ) → drop i a ≡ x ∷ xs → drop i b ≡ [] → P) → P
  either h p q = bool_cases (leb (length a) i)
      (λ t. p (rest_end a i (leb-true (length a) i t)))
      (λ t. let l : i < length a = leb-false (length a) i t in q (get_or a i 0) (drop (i + 1) a) (rest_cons a i l) (rest_end b i (omega arith)))

module _ (a b : List ℕ) (i : ℕ) where
  module _ (h : i < length a) (k : i < length b) where
    pub pairs_go : (f : ℕ → ℕ → ℕ) → pairs f (drop i a) (drop i b) ≡ f (get_or a i 0) (get_or b i 0) ∷ pairs f (drop (i + 1) a) (drop (i + 1) b)
    unfolding pairs
    pairs_go f = rw (rest_cons a i h, rest_cons b i k)

    pub adc_go : (c : ℕ) → adc_bits (drop i a) (drop i b) c
        ≡ xor_of (xor_of (get_or a i 0) (get_or b i 0)) c ∷ adc_bits (drop (i + 1) a) (drop (i + 1) b) (carry_of (get_or a i 0) (get_or b i 0) c)
    unfolding adc_bits
    adc_go c = rw (rest_cons a i h, rest_cons b i k)

    pub ult_go : (c : ℕ) → ult_from (drop i a) (drop i b) c ≡ ult_from (drop (i + 1) a) (drop (i + 1) b) (carry_of (not_of (get_or a i 0)) (get_or b i 0) c)
    unfolding ult_from
    ult_go c = rw (rest_cons a i h, rest_cons b i k)

  module _ (h : min (length a) (length b) ≤ i) where
    pub pairs_end : (f : ℕ → ℕ → ℕ) → pairs f (drop i a) (drop i b) ≡ []
    unfolding pairs
    pairs_end f = either a b i h (λ e. rw e) (λ x xs e g. rw (e, g))

    pub adc_end : (c : ℕ) → adc_bits (drop i a) (drop i b) c ≡ c ∷ []
    unfolding adc_bits
    adc_end c = either a b i h (λ e. rw e) (λ x xs e g. rw (e, g))

    pub ult_end : (c : ℕ) → ult_from (drop i a) (drop i b) c ≡ c
    unfolding ult_from
    ult_end c = either a b i h (λ e. rw e) (λ x xs e g. rw (e, g))

-- bit 0, and X where there is none
pub first_some : (a : List ℕ) → 0 < length a → get_or a 0 0 ≡ get_or a 0 2
first_some [] h = absurd (omega arith)
first_some (x ∷ a) h = refl

pub first_none : (a : List ℕ) → length a ≤ 0 → 2 ≡ get_or a 0 2
first_none [] h = refl
first_none (x ∷ a) h = absurd (omega arith)

-- 0 against 1, by the first of the two
pub clash_zero : (a b : ℕ) → a ≡ 0 → eqb b 1 ≡ clash a b
unfolding clash
clash_zero a b h = rw h (go (eqb b 1))
  where
    go : (t : Bool) → t ≡ t || false
    go true = refl
    go false = refl

pub clash_one : (a b : ℕ) → a ≡ 1 → eqb b 0 ≡ clash a b
unfolding clash
clash_one a b h = rw h

pub clash_other : (a b : ℕ) → (a ≡ 0 → ⊥) → (a ≡ 1 → ⊥) → false ≡ clash a b
unfolding clash
clash_other a b h k = rw (ne_eqb a 0 h, ne_eqb a 1 k)

-- eq, where the places passed tell so much
abbrev pub eq_on : ℕ → List ℕ → List ℕ → ℕ
eq_on told xs ys = pick (some_clash xs ys) 0 (pick (all_agree xs ys) told 2)

one_more : (c s t : Bool) (told : ℕ) → pick c 0 (pick (s && t) told 2) ≡ pick c 0 (pick t (pick s told 2) 2)
one_more true s t told = refl
one_more false true t told = refl
one_more false false true told = refl
one_more false false false told = refl

module _ (a b : List ℕ) (i told : ℕ) where
  module _ (h : i < length a) (k : i < length b) where
    pub eq_stop : clash (get_or a i 0) (get_or b i 0) ≡ true → eq_on told (drop i a) (drop i b) ≡ 0
    unfolding some_clash all_agree
    eq_stop e = rw (rest_cons a i h, rest_cons b i k, e)

    pub eq_go : clash (get_or a i 0) (get_or b i 0) ≡ false
        → eq_on told (drop i a) (drop i b) ≡ eq_on (pick (agree (get_or a i 0) (get_or b i 0)) told 2) (drop (i + 1) a) (drop (i + 1) b)
    unfolding some_clash all_agree
    eq_go e = rw (rest_cons a i h, rest_cons b i k, e) (one_more (some_clash (drop (i + 1) a) (drop (i + 1) b)) (agree (get_or a i 0) (get_or b i 0)) (all_agree (drop (i + 1) a) (drop (i + 1) b)) told)

  pub eq_end : min (length a) (length b) ≤ i → eq_on told (drop i a) (drop i b) ≡ told
  unfolding some_clash all_agree
  eq_end h = either a b i h (λ e. rw e) (λ x xs e g. rw (e, g))

pub eq_all : (a b : List ℕ) → eq_on 1 a b ≡ eq_bit a b
unfolding eq_bit
eq_all a b = refl

-- slt: below the top place, at it, and where b has no such place
module _ (a b : List ℕ) (i c : ℕ) where
  pub slt_go : i + 1 < length a → i < length b
      → slt_from (drop i a) (drop i b) c ≡ slt_from (drop (i + 1) a) (drop (i + 1) b) (carry_of (not_of (get_or a i 0)) (get_or b i 0) c)
  unfolding slt_from
  slt_go h k =
      let l : i < length a = omega arith in
      rw (rest_cons a i l, rest_cons b i k, rest_cons a (i + 1) h)

  pub slt_top : i + 1 ≡ length a → i < length b → slt_from (drop i a) (drop i b) c ≡ carry_of (get_or a i 0) (not_of (get_or b i 0)) c
  unfolding slt_from
  slt_top h k =
      let l : i < length a = omega arith in
      let m : length a ≤ i + 1 = omega arith in
      rw (rest_cons a i l, rest_cons b i k, rest_end a (i + 1) m)

  pub slt_end : length b ≤ i → slt_from (drop i a) (drop i b) c ≡ c
  unfolding slt_from
  slt_end h = rw (rest_end b i h) (go (drop i a))
    where
      go : (xs : List ℕ) → slt_from xs [] c ≡ c
      go [] = refl
      go (x ∷ []) = refl
      go (x ∷ y ∷ xs) = refl

pub slt_none : (a b : List ℕ) → length a ≡ 0 → slt_bit a b ≡ 0
unfolding slt_bit slt_from
slt_none [] b h = refl
slt_none (x ∷ a) b h = absurd (omega arith)
