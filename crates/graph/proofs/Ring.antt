-- The order leaves a row out exactly where there is a ring.
use mathlib.Core.Path.{◌≡◌, ◌∙◌, sym, subst}
use mathlib.Core.Bool.{Bool, true, false, not, ◌||◌}
use mathlib.Core.List.{List}
use Prim.Native.Nat.{ℕ, zero, suc, ◌+◌, ◌-◌, ◌<◌}
use native.Mathlib.Omega.{arith}
use native.Mathlib.Nat.{zero-add, suc-add}
use borrow.Author.Tests.{not-true, not-false}
use Rattle.ground.proofs.Bools.{bool_cases}
use Rattle.graph.specs.Graph.{mem, Reach, one, more, Ring, ready, order, left_out}
use Rattle.graph.specs.Placing.{None, pos}
use Rattle.graph.proofs.Pigeon.{pigeon}
use Rattle.graph.proofs.Ready.{Open, waits_for, some_row, some_none}
use Rattle.graph.proofs.Order.{order_placing, placing_stuck, placing_marks, order_before}

pub reach_then : {reads : ℕ → List ℕ} {i j k : ℕ} → Reach reads i j → Reach reads j k → Reach reads i k
reach_then (one e) q = more e q
reach_then (more e p) q = more e (reach_then p q)

-- Where no row is ready, an unplaced row waits for an unplaced row, and so on: the walk comes back

module _ (reads : ℕ → List ℕ) (n : ℕ) (inside : (i j : ℕ) → i < n → mem j (reads i) ≡ true → j < n) (Q : ℕ → Bool) (stuck : None (ready reads Q) n) where
  -- a row that the walk meets
  record At : Type 0 where
    row : ℕ
    below : row < n
    unplaced : Q row ≡ false

  waits : (a : At) → Open Q (reads a.row)
  waits a = waits_for reads Q a.row (stuck a.row a.below) a.unplaced

  on : At → At
  on a = let x = waits a in record { row = x.row; below = inside a.row x.row a.below x.among; unplaced = x.unplaced }

  walk : At → ℕ → At
  walk a zero = a
  walk a (suc k) = on (walk a k)

  on_reads : (a : At) → mem (on a).row (reads a.row) ≡ true
  unfolding on
  on_reads a = (waits a).among

  -- a later row of the walk is reached from an earlier one
  walked : (a : At) (k m : ℕ) → Reach reads (walk a k).row (walk a (suc (m + k))).row
  unfolding walk
  walked a k zero = rw (zero-add, walk) (one (on_reads (walk a k)))
  walked a k (suc m) = rw (suc-add, walk) (reach_then (walked a k m) (one (on_reads (walk a (suc (m + k))))))

  stuck_ring : (i : ℕ) → i < n → Q i ≡ false → Ring reads n
  stuck_ring i l u =
      let a : At = record { row = i; below = l; unplaced = u } in
      let t = pigeon n (λ k. (walk a k).row) (λ k _. (walk a k).below) in
      let gap : suc (t.j - suc t.i + t.i) ≡ t.j = omega (arith, t.less) in
      record {
        row = (walk a t.i).row;
        below = (walk a t.i).below;
        round = subst (λ (r : ℕ). Reach reads (walk a t.i).row r) (sym t.same)
            (subst (λ (k : ℕ). Reach reads (walk a t.i).row (walk a k).row) gap (walked a t.i (t.j - suc t.i)));
      }

module _ (reads : ℕ → List ℕ) (n : ℕ) (P : ℕ → Bool) where
  -- where none is left out every row is marked at the start or in the order
  pub all_in : left_out reads n P ≡ false → (i : ℕ) → i < n → P i || mem i (order reads n P) ≡ true
  unfolding left_out
  all_in e i l = not-false (P i || mem i (order reads n P)) (some_none (λ k. not (P k || mem k (order reads n P))) n e i l)

  -- THE THEOREM, one way: a row that is left out shows a ring
  pub left_out_ring : ((i j : ℕ) → i < n → mem j (reads i) ≡ true → j < n) → left_out reads n P ≡ true → Ring reads n
  unfolding left_out
  left_out_ring inside e =
      let s = some_row (λ k. not (P k || mem k (order reads n P))) n e in
      let r = order_placing reads n P in
      stuck_ring reads n inside r.marks (placing_stuck reads n r.run) s.row s.below
      (placing_marks reads n r.run s.row ∙ not-true (P s.row || mem s.row (order reads n P)) s.holds)

  -- and the other, where the rows marked at the start lie on no ring

  module _ (clear : (i : ℕ) → P i ≡ true → Reach reads i i → ⊥) where
    unmarked : (i : ℕ) → Reach reads i i → P i ≡ false
    unmarked i c = bool_cases (P i) (λ e. absurd (clear i e c)) (λ e. e)

    -- along a ring the places in the order fall
    falls : {i k : ℕ} → Reach reads i k → Reach reads k i → mem i (order reads n P) ≡ true → pos (order reads n P) k < pos (order reads n P) i
    falls {i} {k} (one e) back m = (order_before reads n P i k m e (unmarked k (reach_then back (one e)))).earlier
    falls {i} {k} (more {j} e p) back m =
        let b = order_before reads n P i j m e (unmarked j (reach_then p (reach_then back (one e)))) in
        omega (arith, b.earlier, falls p (reach_then back (one e)) b.among)

    pub ring_left_out : Ring reads n → left_out reads n P ≡ true
    ring_left_out c = bool_cases (left_out reads n P) (λ e. e)
        (λ e. let m : mem c.row (order reads n P) ≡ true = rw (unmarked c.row c.round) at (all_in e c.row c.below) in
        absurd (omega (arith, falls c.round c.round m)))

  -- without a ring the places in the order are ranks: what a row reads stands lower
  pub order_ranks : left_out reads n P ≡ false → (i j : ℕ) → i < n → P i ≡ false → mem j (reads i) ≡ true → P j ≡ false → pos (order reads n P) j < pos (order reads n P) i
  order_ranks e i j l p d q =
      let m : mem i (order reads n P) ≡ true = rw p at (all_in e i l) in
      (order_before reads n P i j m d q).earlier
