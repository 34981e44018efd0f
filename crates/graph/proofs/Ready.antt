-- What the tests of the placing tell: members, marks, ready rows, the lowest row.
use mathlib.Core.Path.{◌≡◌, refl, ap, ◌∙◌, subst}
use mathlib.Core.Bool.{Bool, true, false, not}
use mathlib.Core.Logic.{◌⊎◌, inl, inr}
use mathlib.Core.List.{List, [], ◌∷◌}
use Prim.Native.Nat.{ℕ, zero, suc, ◌+◌, ◌<◌, ◌≤◌}
use native.Mathlib.Omega.{arith}
use native.Mathlib.Nat.{zero-add}
use native.Mathlib.Decide.{dec_lt}
use lib.Dec.{eqb}
use borrow.Author.Tests.{eqb-true, eq-eqb, ne_eqb, not-true}
use Rattle.ground.proofs.Bools.{bool_cases, never_both, and_true, and_false, or_true, or_false, or_right, not_of_false}
use Rattle.graph.specs.Graph.{mem, all_placed, ready, lowest_from, lowest, place, some}
use Rattle.graph.specs.Placing.{None}
use Rattle.graph.proofs.Pigeon.{none_more}

-- Members

pub mem_here : (x : ℕ) (xs : List ℕ) → mem x (x ∷ xs) ≡ true
unfolding mem
mem_here x xs = rw (eq-eqb x x refl)

pub mem_there : (j x : ℕ) (xs : List ℕ) → mem j xs ≡ true → mem j (x ∷ xs) ≡ true
unfolding mem
mem_there j x xs e = or_right (eqb j x) (mem j xs) e

pub mem_cases : (j x : ℕ) (xs : List ℕ) → mem j (x ∷ xs) ≡ true → (j ≡ x) ⊎ (mem j xs ≡ true)
unfolding mem
mem_cases j x xs e = go (or_true (eqb j x) (mem j xs) e)
  where
    go : (eqb j x ≡ true) ⊎ (mem j xs ≡ true) → (j ≡ x) ⊎ (mem j xs ≡ true)
    go (inl q) = inl (eqb-true j x q)
    go (inr q) = inr q

-- Marks

pub place_same : (P : ℕ → Bool) (r : ℕ) → place P r r ≡ true
unfolding place
place_same P r = rw (eq-eqb r r refl)

pub place_other : (P : ℕ → Bool) (r i : ℕ) → (i ≡ r → ⊥) → place P r i ≡ P i
unfolding place
place_other P r i h = rw (ne_eqb i r h)

pub place_keeps : (P : ℕ → Bool) (r i : ℕ) → P i ≡ true → place P r i ≡ true
unfolding place
place_keeps P r i e = or_right (eqb i r) (P i) e

pub place_cases : (P : ℕ → Bool) (r i : ℕ) → place P r i ≡ true → (i ≡ r) ⊎ (P i ≡ true)
unfolding place
place_cases P r i e = go (or_true (eqb i r) (P i) e)
  where
    go : (eqb i r ≡ true) ⊎ (P i ≡ true) → (i ≡ r) ⊎ (P i ≡ true)
    go (inl q) = inl (eqb-true i r q)
    go (inr q) = inr q

-- Rows that are all placed

pub all_placed_lem : (P : ℕ → Bool) (xs : List ℕ) → all_placed P xs ≡ true → (j : ℕ) → mem j xs ≡ true → P j ≡ true
unfolding all_placed mem
all_placed_lem P [] e j m = never_both m refl
all_placed_lem P (x ∷ xs) e j m = go (mem_cases j x xs m) (λ q. all_placed_lem P xs (and_true (P x) (all_placed P xs) e).1 j q)
  where
    go : (j ≡ x) ⊎ (mem j xs ≡ true) → (mem j xs ≡ true → P j ≡ true) → P j ≡ true
    go (inl q) ih = ap P q ∙ (and_true (P x) (all_placed P xs) e).0
    go (inr q) ih = ih q

-- a row among them that is not
pub record Open (P : ℕ → Bool) (xs : List ℕ) : Type 0 where
  pub row : ℕ
  pub among : mem row xs ≡ true
  pub unplaced : P row ≡ false

pub some_open : (P : ℕ → Bool) (xs : List ℕ) → all_placed P xs ≡ false → Open P xs
unfolding all_placed
some_open P [] e = never_both refl e
some_open P (x ∷ xs) e = bool_cases (P x)
    (λ p. let o = some_open P xs (and_false (P x) (all_placed P xs) e p) in record { row = o.row; among = mem_there o.row x xs o.among; unplaced = o.unplaced })
    (λ p. record { row = x; among = mem_here x xs; unplaced = p })

-- Ready rows

module _ (reads : ℕ → List ℕ) (P : ℕ → Bool) (r : ℕ) where
  pub ready_unplaced : ready reads P r ≡ true → P r ≡ false
  unfolding ready
  ready_unplaced e = not-true (P r) (and_true (not (P r)) (all_placed P (reads r)) e).0

  -- what a ready row reads is placed
  pub ready_reads : ready reads P r ≡ true → (j : ℕ) → mem j (reads r) ≡ true → P j ≡ true
  unfolding ready
  ready_reads e = all_placed_lem P (reads r) (and_true (not (P r)) (all_placed P (reads r)) e).1

  -- a placed row is not ready
  pub placed_shut : P r ≡ true → ready reads P r ≡ false
  unfolding ready
  placed_shut e = rw e

  -- an unplaced row that is not ready reads an unplaced row
  pub waits_for : ready reads P r ≡ false → P r ≡ false → Open P (reads r)
  unfolding ready
  waits_for e p = some_open P (reads r) (and_false (not (P r)) (all_placed P (reads r)) e (not_of_false (P r) p))

-- The lowest row

pub record Lowest (p : ℕ → Bool) (n r : ℕ) : Type 0 where
  pub top : r ≤ n
  pub first : None p r
  pub hit : r < n → p r ≡ true

lowest_from_lem : (p : ℕ → Bool) (f k : ℕ) → None p k → Lowest p (k + f) (lowest_from p f k)
unfolding lowest_from
lowest_from_lem p zero k h = record { top = omega arith; first = h; hit = λ l. absurd (omega arith) }
lowest_from_lem p (suc f) k h = bool_cases (p k)
    (λ e. rw (e, lowest_from) (record { top = omega arith; first = h; hit = λ l. e }))
    (λ e. let m : suc k + f ≡ k + suc f = omega arith in
    rw (e, lowest_from) (subst (λ (j : ℕ). Lowest p j (lowest_from p f (suc k))) m (lowest_from_lem p f (suc k) (none_more p k h e))))

pub lowest_law : (p : ℕ → Bool) (n : ℕ) → Lowest p n (lowest p n)
unfolding lowest
lowest_law p n = subst (λ (j : ℕ). Lowest p j (lowest_from p n 0)) (zero-add n) (lowest_from_lem p n 0 (λ j l. absurd (omega arith)))

-- it is what a search finds
pub lowest_is : (p : ℕ → Bool) (n r : ℕ) → Lowest p n r → lowest p n ≡ r
lowest_is p n r w = go (dec_lt (lowest p n) r) (dec_lt r (lowest p n))
  where
    v : Lowest p n (lowest p n)
    v = lowest_law p n

    go : Dec (lowest p n < r) → Dec (r < lowest p n) → lowest p n ≡ r
    go (yes l) d = never_both (v.hit (omega (arith, w.top))) (w.first (lowest p n) l)
    go (no a) (yes l) = never_both (w.hit (omega (arith, v.top))) (v.first r l)
    go (no a) (no b) = omega arith

-- Some row

pub record Some (p : ℕ → Bool) (n : ℕ) : Type 0 where
  pub row : ℕ
  pub below : row < n
  pub holds : p row ≡ true

pub some_row : (p : ℕ → Bool) (n : ℕ) → some p n ≡ true → Some p n
unfolding some
some_row p zero e = never_both e refl
some_row p (suc n) e = go (or_true (p n) (some p n) e) (λ q. some_row p n q)
  where
    go : (p n ≡ true) ⊎ (some p n ≡ true) → (some p n ≡ true → Some p n) → Some p (suc n)
    go (inl q) ih = record { row = n; below = omega arith; holds = q }
    go (inr q) ih = let s = ih q in record { row = s.row; below = omega (arith, s.below); holds = s.holds }

pub some_none : (p : ℕ → Bool) (n : ℕ) → some p n ≡ false → None p n
unfolding some
some_none p zero e = λ j l. absurd (omega arith)
some_none p (suc n) e = none_more p n (some_none p n (or_false (p n) (some p n) e).1) (or_false (p n) (some p n) e).0
