-- The order depends only on the reads and the marks of the rows below n.
use mathlib.Core.Path.{◌≡◌, refl, ap, ap₂, ◌∙◌, sym}
use mathlib.Core.Bool.{Bool, true, false, not, ◌&&◌, ◌||◌}
use mathlib.Core.List.{List, [], ◌∷◌}
use Prim.Native.Nat.{ℕ, zero, suc, ◌+◌, ◌<◌}
use native.Mathlib.Omega.{arith}
use native.Mathlib.Decide.{dec_lt}
use lib.Dec.{eqb}
use Rattle.graph.specs.Graph.{mem, all_placed, ready, lowest_from, lowest, place, order_from, order, some, left_out}
use Rattle.graph.proofs.Ready.{mem_here, mem_there}
use Rattle.graph.proofs.Order.{order_on, order_stop}

-- alike on the rows below n
abbrev pub Alike : {A : Type 0} → (ℕ → A) → (ℕ → A) → ℕ → Type 0
Alike f g n = (i : ℕ) → i < n → f i ≡ g i

pub all_alike : (P Q : ℕ → Bool) (n : ℕ) → Alike P Q n → (xs : List ℕ) → ((j : ℕ) → mem j xs ≡ true → j < n) → all_placed P xs ≡ all_placed Q xs
unfolding all_placed
all_alike P Q n h [] b = refl
all_alike P Q n h (x ∷ xs) b = ap₂ (λ (s t : Bool). s && t) (h x (b x (mem_here x xs))) (all_alike P Q n h xs (λ j m. b j (mem_there j x xs m)))

from_alike : (p q : ℕ → Bool) (f k : ℕ) → Alike p q (k + f) → lowest_from p f k ≡ lowest_from q f k
unfolding lowest_from
from_alike p q zero k h = refl
from_alike p q (suc f) k h = ap₂ (λ (b : Bool) (m : ℕ). elim b [ true ↦ k | false ↦ m ]) (h k (omega arith)) (from_alike p q f (suc k) (λ i l. h i (omega arith)))

pub lowest_alike : (p q : ℕ → Bool) (n : ℕ) → Alike p q n → lowest p n ≡ lowest q n
unfolding lowest
lowest_alike p q n h = from_alike p q n 0 (λ i l. h i (omega arith))

pub some_alike : (p q : ℕ → Bool) (n : ℕ) → Alike p q n → some p n ≡ some q n
unfolding some
some_alike p q zero h = refl
some_alike p q (suc n) h = ap₂ (λ (s t : Bool). s || t) (h n (omega arith)) (some_alike p q n (λ i l. h i (omega arith)))

module _ (reads others : ℕ → List ℕ) (n : ℕ) (same : Alike reads others n) (below : (i j : ℕ) → i < n → mem j (reads i) ≡ true → j < n) where
  ready_alike : (P Q : ℕ → Bool) → Alike P Q n → Alike (ready reads P) (ready others Q) n
  unfolding ready
  ready_alike P Q h i l = ap₂ (λ (s t : Bool). not s && t) (h i l) (all_alike P Q n h (reads i) (λ j m. below i j l m) ∙ ap (all_placed Q) (same i l))

  pub order_from_alike : (f : ℕ) (P Q : ℕ → Bool) → Alike P Q n → order_from reads n f P ≡ order_from others n f Q
  unfolding order_from place
  order_from_alike zero P Q h = refl
  order_from_alike (suc f) P Q h = go (dec_lt r n) (order_from_alike f (place P r) (place Q r) (λ i l. placed i (h i l)))
    where
      r : ℕ
      r = lowest (ready others Q) n

      e : lowest (ready reads P) n ≡ r
      e = lowest_alike (ready reads P) (ready others Q) n (ready_alike P Q h)

      placed : (i : ℕ) → P i ≡ Q i → place P r i ≡ place Q r i
      placed i q = ap (λ (b : Bool). eqb i r || b) q

      go : Dec (r < n) → order_from reads n f (place P r) ≡ order_from others n f (place Q r) → order_from reads n (suc f) P ≡ order_from others n (suc f) Q
      go (yes l) ih = order_on reads n f P r e l ∙ ap (λ (L : List ℕ). r ∷ L) ih ∙ sym (order_on others n f Q r refl l)
      go (no l) ih = order_stop reads n f P (omega (arith, e)) ∙ sym (order_stop others n f Q (omega arith))

  pub order_alike : (P Q : ℕ → Bool) → Alike P Q n → order reads n P ≡ order others n Q
  unfolding order
  order_alike P Q h = order_from_alike n P Q h

  pub left_out_alike : (P Q : ℕ → Bool) → Alike P Q n → left_out reads n P ≡ left_out others n Q
  unfolding left_out
  left_out_alike P Q h =
      some_alike (λ i. not (P i || mem i (order reads n P))) (λ i. not (Q i || mem i (order others n Q))) n
      (λ i l. ap₂ (λ (b : Bool) (L : List ℕ). not (b || mem i L)) (h i l) (order_alike P Q h))
