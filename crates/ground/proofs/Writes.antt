-- Chains of writes into a lent list.
use mathlib.Core.Path.{◌≡◌, refl, sym, ap, ap₂, ◌∙◌}
use mathlib.Core.List.{List, [], ◌∷◌, ◌++◌}
use Prim.Native.Nat.{ℕ, suc, ◌+◌, ◌<◌}
use native.Mathlib.Nat.{add-zero, add-suc, suc-add}
use native.Mathlib.Omega.{arith}
use lib.ListN.{length, get_or, take, set, length-append}
use lib.Seq.{sets, length-sets, length-take-le}
use Rattle.ground.specs.Writes.{Wrote, Put}
use Rattle.ground.proofs.Rest.{front_more}

-- two runs of stores, one after the other
pub sets_append : {A : Type 0} (l : List A) (i : ℕ) (xs ys : List A) → sets l i (xs ++ ys) ≡ sets (sets l i xs) (i + length xs) ys
sets_append l i [] ys = rw add-zero
sets_append l i (x ∷ xs) ys = sets_append (set l i x) (suc i) xs ys ∙ rw (add-suc, suc-add)

-- one word more of a list that is copied word by word
pub sets_more : (l : List ℕ) (at : ℕ) (xs : List ℕ) (k : ℕ) → k < length xs → set (sets l at (take k xs)) (at + k) (get_or xs k 0) ≡ sets l at (take (k + 1) xs)
sets_more l at xs k h =
    let e : length (take k xs) ≡ k = length-take-le k xs (omega arith) in
    sym (rw (front_more xs k h, sets_append, e))

module _ {A : Type 0} where
  pub wrote_nothing : (l : List A) (at : ℕ) → Wrote l at [] l
  wrote_nothing l at = record { is = refl }

  pub wrote_then : {l a b : List A} {k n : ℕ} {xs ys : List A} → Wrote l k xs a → n ≡ k + length xs → Wrote a n ys b → Wrote l k (xs ++ ys) b
  wrote_then {l} {a} {b} {k} {n} {xs} {ys} p e q = record { is = q.is ∙ ap₂ (λ x m. sets x m ys) p.is e ∙ sym (sets_append l k xs ys) }

  pub wrote_length : {l a : List A} {k : ℕ} {xs : List A} → Wrote l k xs a → length a ≡ length l
  wrote_length {l} {a} {k} {xs} p = ap length p.is ∙ length-sets l k xs

  pub put_nothing : (l : List A) (at : ℕ) → Put l at [] at l
  put_nothing l at = record { next = sym (add-zero at); holds = refl }

  pub put_one : (l : List A) (at : ℕ) (x : A) → Put l at (x ∷ []) (at + 1) (set l at x)
  put_one l at x = record { next = refl; holds = refl }

  pub put_then : {l a b : List A} {k m n : ℕ} {xs ys : List A} → Put l k xs m a → Put a m ys n b → Put l k (xs ++ ys) n b
  put_then {l} {a} {b} {k} {m} {n} {xs} {ys} p q = record {
    next = rw length-append (omega (arith, p.next, q.next));
    holds = q.holds ∙ ap₂ (λ x j. sets x j ys) p.holds p.next ∙ sym (sets_append l k xs ys);
  }

  pub put_length : {l a : List A} {k n : ℕ} {xs : List A} → Put l k xs n a → length a ≡ length l
  put_length {l} {a} {k} {n} {xs} p = ap length p.holds ∙ length-sets l k xs

  pub put_wrote : {l a : List A} {k n : ℕ} {xs : List A} → Put l k xs n a → Wrote l k xs a
  put_wrote p = record { is = p.holds }
