-- Decimals: the digits and how many they are.
use Prim.Native.Nat.{ℕ, zero, suc, ◌+◌, ◌-◌, ◌/◌, ◌%◌, ◌^◌, ◌<◌, ◌≤◌}
use mathlib.Core.Path.{◌≡◌, refl, ap, ◌∙◌}
use mathlib.Core.Bool.{Bool, true, false}
use mathlib.Core.List.{List, [], ◌∷◌, ◌++◌}
use native.Mathlib.Omega.{arith}
use native.Mathlib.Nat.{div-lt_iff_lt-mul, mod-lt}
use lib.Dec.{leb}
use lib.ListN.{length, get_or}
use borrow.Author.Tests.{le-leb, lt-leb, leb-true}
use Rattle.ground.specs.Choice.{pick}
use Rattle.ground.specs.Lists.{total, every}
use Rattle.ground.proofs.Bools.{every_first}
use Rattle.ground.proofs.Tables.{table_rule}
use Rattle.writing.specs.Stands.{Wrote, Leaves}
use Rattle.writing.proofs.Stands.{step, last, same_rest}
use Rattle.writing.specs.Decimal.{digits, places, powers, signed, SplitAt}
use Rattle.writing.specs.Words.{number}

abbrev reach : ℕ → ℕ → ℕ
reach n p = pick (leb p n) 1 0

-- a number at least p, and one below p and every further power
module _ (n p : ℕ) (ps : List ℕ) where
  pub reached : (m : ℕ) → p ≤ n → total (reach n) ps ≡ m → total (reach n) (p ∷ ps) ≡ suc m
  unfolding total
  reached m h e = rw (le-leb p n h) (omega arith)

unreached : (n p : ℕ) (ps : List ℕ) → n < p → every (leb p) ps ≡ true → total (reach n) ps ≡ 0
unfolding total
unreached n p [] h e = refl
unreached n p (q ∷ ps) h e =
    let f = every_first (leb p) q ps e in
    let g : n < q = omega (arith, leb-true p q f.0) in
    rw (lt-leb q n g) (omega (arith, unreached n p ps h f.1))

pub unreached_all : (n p : ℕ) (ps : List ℕ) → n < p → every (leb p) ps ≡ true → total (reach n) (p ∷ ps) ≡ 0
unfolding total
unreached_all n p ps h e = rw (lt-leb p n h) (omega (arith, unreached n p ps h e))

pub ten_pos : (k : ℕ) → 0 < 10 ^ k
ten_pos zero = omega arith
ten_pos (suc k) = omega (arith, ten_pos k)

pub split_law : (n k d r : ℕ) → n < 10 ^ suc k → d ≡ n / 10 ^ k → r ≡ n % 10 ^ k → SplitAt n k d r
split_law n k d r h e f = record {
  first = e;
  after = f;
  small = rw e ((div-lt_iff_lt-mul (ten_pos k)).1 (omega arith));
  less = rw f (mod-lt n (ten_pos k));
}

-- the first of more than one digit
pub digits_more : (k n : ℕ) → 0 < k → digits k n ≡ (48 + n / 10 ^ k) ∷ digits (k - 1) (n % 10 ^ k)
unfolding digits
digits_more zero n h = absurd (omega arith)
digits_more (suc k) n h =
    let e : suc k - 1 ≡ k = omega arith in
    rw e

pub digits_one : (k n : ℕ) → k ≡ 0 → digits k n ≡ (48 + n) ∷ []
unfolding digits
digits_one zero n e = refl
digits_one (suc k) n e = absurd (omega arith)

abbrev table : List ℕ
table = 1 ∷ powers

pub power_at : (k : ℕ) → k < 10 → get_or table k 0 ≡ 10 ^ k
power_at = table_rule (λ k. 10 ^ k) table tt

-- the digits of a number, written from the left: one of more, and the last
module _ {l l' l'' : List ℕ} {n n' n'' : ℕ} {f : List ℕ → List ℕ} (k x b : ℕ) (w : Leaves l n f l' n' (λ t. digits k x ++ t)) (p : Wrote l' n' (λ t. b ∷ t) l'' n'') where
  pub digit_turn : (d r : ℕ) → 0 < k → SplitAt x k d r → b ≡ 48 + d → Leaves l n f l'' n'' (λ t. digits (k - 1) r ++ t)
  digit_turn d r h s e =
      step (λ t. digits (k - 1) r ++ t) (same_rest w (λ t. rw (digits_more k x h, e, s.first, s.after))) p

  pub digit_last : k ≡ 0 → b ≡ 48 + x → Wrote l n f l'' n''
  digit_last z e = last (same_rest w (λ t. rw (digits_one k x z, e))) p

-- a number with its sign
pub signed_below : (x : ℕ) → 2147483648 ≤ x → x < 4294967296 → (t : List ℕ) → 45 ∷ number (4294967295 - x + 1) t ≡ signed x ++ t
unfolding signed number
signed_below x h l t =
    let e : 4294967295 - x + 1 ≡ 4294967296 - x = omega arith in
    rw (le-leb 2147483648 x h, e)

pub signed_above : (x : ℕ) → x < 2147483648 → (t : List ℕ) → number x t ≡ signed x ++ t
unfolding signed number
signed_above x h t = rw (lt-leb 2147483648 x h)

pub reached_all : (n : ℕ) → total (reach n) [] ≡ 0
unfolding total
reached_all n = refl
