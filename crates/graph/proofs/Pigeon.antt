-- The pigeonhole: n + 1 numbers below n are not all different.
use mathlib.Core.Path.{◌≡◌, refl, ap, ◌∙◌, sym}
use mathlib.Core.Bool.{Bool, true, false}
use mathlib.Core.Logic.{◌⊎◌, inl, inr}
use Prim.Native.Nat.{ℕ, zero, suc, ◌<◌, ◌≤◌}
use native.Mathlib.Omega.{arith}
use native.Mathlib.Decide.{ℕ_discrete}
use lib.Dec.{eqb}
use borrow.Author.Tests.{eqb-true, eqb-false}
use Rattle.graph.specs.Placing.{None}

pub none_more : (p : ℕ → Bool) (n : ℕ) → None p n → p n ≡ false → None p (suc n)
none_more p n h e j l = go (ℕ_discrete j n)
  where
    go : Dec (j ≡ n) → p j ≡ false
    go (yes q) = ap p q ∙ e
    go (no q) = h j (omega arith)

-- a number below n with p
record Found (p : ℕ → Bool) (n : ℕ) : Type 0 where
  at : ℕ
  below : at < n
  holds : p at ≡ true

find : (p : ℕ → Bool) (n : ℕ) → Found p n ⊎ None p n
find p zero = inr (λ j l. absurd (omega arith))
find p (suc n) = go (find p n) (p n) refl
  where
    go : Found p n ⊎ None p n → (b : Bool) → p n ≡ b → Found p (suc n) ⊎ None p (suc n)
    go (inl f) b e = inl (record { at = f.at; below = omega arith; holds = f.holds })
    go (inr h) true e = inl (record { at = n; below = omega arith; holds = e })
    go (inr h) false e = inr (none_more p n h e)

-- f takes one value at two places up to n
pub record Twice (f : ℕ → ℕ) (n : ℕ) : Type 0 where
  pub i : ℕ
  pub j : ℕ
  pub less : i < j
  pub last : j ≤ n
  pub same : f i ≡ f j

-- x, with v in place of m
swap : {A : Type 0} → ℕ → Dec A → ℕ → ℕ
swap v (yes e) x = v
swap v (no e) x = x

abbrev moved : ℕ → ℕ → ℕ → ℕ
moved m v x = swap v (ℕ_discrete x m) x

-- where the last value is taken by no other, it is put in place of n, and one number less is left
module _ (f : ℕ → ℕ) (n : ℕ) (h : (k : ℕ) → k ≤ suc n → f k < suc n) (fresh : (k : ℕ) → k ≤ n → f k ≡ f (suc n) → ⊥) where
  moved_below : (k : ℕ) → k ≤ n → moved n (f (suc n)) (f k) < n
  unfolding swap
  moved_below k l = go (ℕ_discrete (f k) n)
    where
      go : (d : Dec (f k ≡ n)) → swap (f (suc n)) d (f k) < n
      go (yes e) =
          let q : f (suc n) ≡ n → ⊥ = λ q. fresh k l (e ∙ sym q) in
          omega (arith, h (suc n) (omega arith))
      go (no e) = omega (arith, h k (omega arith))

  moved_same : (i j : ℕ) → i ≤ n → j ≤ n → moved n (f (suc n)) (f i) ≡ moved n (f (suc n)) (f j) → f i ≡ f j
  unfolding swap
  moved_same i j li lj = go (ℕ_discrete (f i) n) (ℕ_discrete (f j) n)
    where
      go : (d : Dec (f i ≡ n)) (e : Dec (f j ≡ n)) → swap (f (suc n)) d (f i) ≡ swap (f (suc n)) e (f j) → f i ≡ f j
      go (yes p) (yes q) s = p ∙ sym q
      go (yes p) (no q) s = absurd (fresh j lj (sym s))
      go (no p) (yes q) s = absurd (fresh i li s)
      go (no p) (no q) s = s

pub pigeon : (n : ℕ) (f : ℕ → ℕ) → ((k : ℕ) → k ≤ n → f k < n) → Twice f n
pigeon zero f h = absurd (omega (arith, h 0 (omega arith)))
pigeon (suc n) f h = go (find (λ k. eqb (f k) (f (suc n))) (suc n)) (λ fresh. pigeon n (λ k. moved n (f (suc n)) (f k)) (moved_below f n h fresh))
  where
    go : Found (λ k. eqb (f k) (f (suc n))) (suc n) ⊎ None (λ k. eqb (f k) (f (suc n))) (suc n)
        → (((k : ℕ) → k ≤ n → f k ≡ f (suc n) → ⊥) → Twice (λ k. moved n (f (suc n)) (f k)) n) → Twice f (suc n)
    go (inl r) ih = record { i = r.at; j = suc n; less = r.below; last = omega arith; same = eqb-true _ _ r.holds }
    go (inr nobody) ih =
        let fresh : (k : ℕ) → k ≤ n → f k ≡ f (suc n) → ⊥ = λ k l. eqb-false _ _ (nobody k (omega arith)) in
        let t : Twice (λ k. moved n (f (suc n)) (f k)) n = ih fresh in
        record {
          i = t.i;
          j = t.j;
          less = t.less;
          last = omega arith;
          same = moved_same f n h fresh t.i t.j (omega arith) t.last t.same;
        }
