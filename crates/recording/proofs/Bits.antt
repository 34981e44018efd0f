-- What each kind makes at bit i of its operands, and behind the last.
use mathlib.Core.Path.{◌≡◌, refl}
use mathlib.Core.Logic.{◌⊎◌, inl, inr, ⊎_elim}
use mathlib.Core.List.{List, [], ◌∷◌}
use Prim.Native.Nat.{ℕ, ◌+◌, ◌-◌, ◌<◌, ◌≤◌, min}
use native.Mathlib.Omega.{arith}
use lib.Dec.{leb, eqb}
use lib.ListN.{length, drop, get_or}
use borrow.Author.Tests.{leb-true, leb-false}
use Rattle.ground.proofs.Bools.{bool_cases}
use Rattle.ground.proofs.Rest.{rest_cons, rest_end}
use Rattle.kinds.specs.Kinds.{ult_kind}
use Rattle.loadlist.specs.Records.{rec, not_op, and_op, or_op, xor_op}
use Rattle.cells.specs.Records.{Made, made, not_made, gate_made, mux_from, mux_made, carry_records, adc_made, eq_from, eq_made, below_records, ult_made, slt_made}
use Rattle.recording.specs.ByKind.{low_bits, less_made}
use Rattle.recording.proofs.Left.{Step}

module _ (a : List ℕ) (i : ℕ) where
  pub buf_on : i < length a → Step (made [] (drop i a)) [] (get_or a i 0 ∷ []) (made [] (drop (i + 1) a))
  buf_on h = record { is = rw (rest_cons a i h) }

  pub buf_end : length a ≤ i → made [] (drop i a) ≡ made [] []
  buf_end h = rw (rest_end a i h)

  pub not_on : (k : ℕ) → i < length a → Step (not_made k (drop i a)) (rec not_op (get_or a i 0) 0 ∷ []) (k ∷ []) (not_made (k + 1) (drop (i + 1) a))
  unfolding not_made
  not_on k h = record { is = rw (rest_cons a i h) }

  pub not_end : (k : ℕ) → length a ≤ i → not_made k (drop i a) ≡ made [] []
  unfolding not_made
  not_end k h = rw (rest_end a i h)

-- behind the bits that two operands share one of them ends
shared_end : (x y i : ℕ) → min x y ≤ i → (x ≤ i) ⊎ (y ≤ i)
shared_end x y i h = bool_cases (leb x i) (λ e. inl (leb-true x i e)) (λ e. let l = leb-false x i e in inr (omega arith))

two_end : (f : List ℕ → List ℕ → Made) (e : Made) → ((ys : List ℕ) → f [] ys ≡ e) → ((xs : List ℕ) → f xs [] ≡ e)
    → (a b : List ℕ) (i : ℕ) → min (length a) (length b) ≤ i → f (drop i a) (drop i b) ≡ e
two_end f e p q a b i h =
    ⊎_elim (λ l. rw (rest_end a i l) (p (drop i b))) (λ l. rw (rest_end b i l) (q (drop i a))) (shared_end (length a) (length b) i h)

gate_second : (op k : ℕ) (xs : List ℕ) → gate_made op k xs [] ≡ made [] []
unfolding gate_made
gate_second op k [] = refl
gate_second op k (x ∷ xs) = refl

mux_second : (s n x k : ℕ) (xs : List ℕ) → mux_from s n x k xs [] ≡ made [] []
unfolding mux_from
mux_second s n x k [] = refl
mux_second s n x k (a ∷ xs) = refl

adc_second : (k c : ℕ) (xs : List ℕ) → adc_made k xs [] c ≡ made [] (c ∷ [])
unfolding adc_made
adc_second k c [] = refl
adc_second k c (x ∷ xs) = refl

eq_second : (sum k : ℕ) (xs : List ℕ) → eq_from sum k xs [] ≡ made (rec not_op sum 0 ∷ []) (k ∷ [])
unfolding eq_from
eq_second sum k [] = refl
eq_second sum k (x ∷ xs) = refl

ult_second : (k c : ℕ) (xs : List ℕ) → ult_made k xs [] c ≡ made [] (c ∷ [])
unfolding ult_made
ult_second k c [] = refl
ult_second k c (x ∷ xs) = refl

slt_second : (k c : ℕ) (xs : List ℕ) → slt_made k xs [] c ≡ made [] (c ∷ [])
unfolding slt_made
slt_second k c [] = refl
slt_second k c (x ∷ []) = refl
slt_second k c (x ∷ y ∷ xs) = refl

module _ (a b : List ℕ) (i : ℕ) where
  abbrev x : ℕ
  x = get_or a i 0

  abbrev y : ℕ
  y = get_or b i 0

  abbrev xs : List ℕ
  xs = drop (i + 1) a

  abbrev ys : List ℕ
  ys = drop (i + 1) b

  module _ (k : ℕ) (h : i < min (length a) (length b)) where
    pub gate_on : (op : ℕ) → Step (gate_made op k (drop i a) (drop i b)) (rec op x y ∷ []) (k ∷ []) (gate_made op (k + 1) xs ys)
    unfolding gate_made
    gate_on op = record { is = rw (rest_cons a i (omega arith), rest_cons b i (omega arith)) }

    pub mux_on : (s n z : ℕ)
        → Step (mux_from s n z k (drop i a) (drop i b)) (rec and_op s x ∷ rec and_op n y ∷ rec or_op k (k + 1) ∷ rec xor_op z (k + 2) ∷ []) ((k + 3) ∷ []) (mux_from s n z (k + 4) xs ys)
    unfolding mux_from
    mux_on s n z = record { is = rw (rest_cons a i (omega arith), rest_cons b i (omega arith)) }

    pub adc_on : (c : ℕ)
        → Step (adc_made k (drop i a) (drop i b) c) (rec xor_op x y ∷ rec xor_op k c ∷ carry_records (k + 2) x y c) ((k + 1) ∷ []) (adc_made (k + 6) xs ys (k + 5))
    unfolding adc_made
    adc_on c = record { is = rw (rest_cons a i (omega arith), rest_cons b i (omega arith)) }

    pub eq_on : (sum : ℕ) → Step (eq_from sum k (drop i a) (drop i b)) (rec xor_op x y ∷ rec or_op sum k ∷ []) [] (eq_from (k + 1) (k + 2) xs ys)
    unfolding eq_from
    eq_on sum = record { is = rw (rest_cons a i (omega arith), rest_cons b i (omega arith)) }

    ult_on : (c : ℕ) → Step (ult_made k (drop i a) (drop i b) c) (below_records k x y c) [] (ult_made (k + 5) xs ys (k + 4))
    unfolding ult_made
    ult_on c = record { is = rw (rest_cons a i (omega arith), rest_cons b i (omega arith)) }

    -- slt at its top place
    slt_top : (c : ℕ) → length a ≡ i + 1 → Step (slt_made k (drop i a) (drop i b) c) (rec not_op y 0 ∷ carry_records (k + 1) x k c) ((k + 4) ∷ []) (made [] [])
    unfolding slt_made
    slt_top c e = record { is = rw (rest_cons a i (omega arith), rest_end a (i + 1) (omega arith), rest_cons b i (omega arith)) }

  slt_on : (k : ℕ) → i < min (length a - 1) (length b) → (c : ℕ)
      → Step (slt_made k (drop i a) (drop i b) c) (below_records k x y c) [] (slt_made (k + 5) xs ys (k + 4))
  unfolding slt_made
  slt_on k h c = record { is = rw (rest_cons a i (omega arith), rest_cons a (i + 1) (omega arith), rest_cons b i (omega arith)) }

  module _ (k : ℕ) (h : min (length a) (length b) ≤ i) where
    pub gate_end : (op : ℕ) → gate_made op k (drop i a) (drop i b) ≡ made [] []
    unfolding gate_made
    gate_end op = two_end (gate_made op k) (made [] []) (λ _. refl) (gate_second op k) a b i h

    pub mux_end : (s n z : ℕ) → mux_from s n z k (drop i a) (drop i b) ≡ made [] []
    unfolding mux_from
    mux_end s n z = two_end (mux_from s n z k) (made [] []) (λ _. refl) (mux_second s n z k) a b i h

    pub adc_end : (c : ℕ) → Step (adc_made k (drop i a) (drop i b) c) [] (c ∷ []) (made [] [])
    unfolding adc_made
    adc_end c = record { is = two_end (λ p q. adc_made k p q c) (made [] (c ∷ [])) (λ _. refl) (adc_second k c) a b i h }

    pub eq_end : (sum : ℕ) → Step (eq_from sum k (drop i a) (drop i b)) (rec not_op sum 0 ∷ []) (k ∷ []) (made [] [])
    unfolding eq_from
    eq_end sum = record { is = two_end (eq_from sum k) (made (rec not_op sum 0 ∷ []) (k ∷ [])) (λ _. refl) (eq_second sum k) a b i h }

    ult_end : (c : ℕ) → Step (ult_made k (drop i a) (drop i b) c) [] (c ∷ []) (made [] [])
    unfolding ult_made
    ult_end c = record { is = two_end (λ p q. ult_made k p q c) (made [] (c ∷ [])) (λ _. refl) (ult_second k c) a b i h }

    slt_end : (c : ℕ) → Step (slt_made k (drop i a) (drop i b) c) [] (c ∷ []) (made [] [])
    unfolding slt_made
    slt_end c = record { is = two_end (λ p q. slt_made k p q c) (made [] (c ∷ [])) (λ _. refl) (slt_second k c) a b i h }

-- ult or slt: below its top place, at it, and behind the last
module _ (a b : List ℕ) (i kind k c : ℕ) where
  pub less_on : i < low_bits kind a b → Step (less_made kind k (drop i a) (drop i b) c) (below_records k (x a b i) (y a b i) c) [] (less_made kind (k + 5) (xs a b i) (ys a b i) (k + 4))
  unfolding low_bits less_made
  less_on h = bool_cases (eqb kind ult_kind) (λ e. rw e (ult_on a b i k (rw e at h) c)) (λ e. rw e (slt_on a b i k (rw e at h) c))

  pub less_top : low_bits kind a b ≤ i → i < min (length a) (length b)
      → Step (less_made kind k (drop i a) (drop i b) c) (rec not_op (y a b i) 0 ∷ carry_records (k + 1) (x a b i) k c) ((k + 4) ∷ []) (made [] [])
  unfolding low_bits less_made
  less_top l h =
      bool_cases (eqb kind ult_kind)
      (λ e. let m : min (length a) (length b) ≤ i = rw e at l in absurd (omega arith))
      (λ e. let m : min (length a - 1) (length b) ≤ i = rw e at l in rw e (slt_top a b i k h c (omega arith)))

  pub less_end : min (length a) (length b) ≤ i → Step (less_made kind k (drop i a) (drop i b) c) [] (c ∷ []) (made [] [])
  unfolding less_made
  less_end h = bool_cases (eqb kind ult_kind) (λ e. rw e (ult_end a b i k h c)) (λ e. rw e (slt_end a b i k h c))

-- the first records of mux
pub mux_first : (k s : ℕ) (a b : List ℕ) → Step (mux_made k s a b) (rec not_op s 0 ∷ rec xor_op s s ∷ []) [] (mux_from s k (k + 1) (k + 2) a b)
unfolding mux_made
mux_first k s a b = record { is = refl }

-- and of eq; operands without a bit have none
pub eq_first : (k : ℕ) (a b : List ℕ) → 1 ≤ min (length a) (length b)
    → Step (eq_made k a b) (rec xor_op (get_or a 0 0) (get_or b 0 0) ∷ []) [] (eq_from k (k + 1) (drop 1 a) (drop 1 b))
unfolding eq_made
eq_first k [] b h = absurd (omega arith)
eq_first k (x ∷ xs) [] h = absurd (omega arith)
eq_first k (x ∷ xs) (y ∷ ys) h = record { is = refl }

pub eq_none : (k : ℕ) (a b : List ℕ) → min (length a) (length b) < 1 → eq_made k a b ≡ made [] []
unfolding eq_made
eq_none k [] b h = refl
eq_none k (x ∷ xs) [] h = refl
eq_none k (x ∷ xs) (y ∷ ys) h = absurd (omega arith)
