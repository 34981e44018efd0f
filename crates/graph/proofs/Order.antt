-- The order of placing: it runs to its end, and what is true of every row in it.
use mathlib.Core.Path.{◌≡◌, refl, ap, ap₂, ◌∙◌, sym, subst}
use mathlib.Core.Bool.{Bool, true, false, ◌||◌}
use mathlib.Core.Logic.{◌⊎◌, inl, inr}
use mathlib.Core.List.{List, [], ◌∷◌, ◌++◌}
use Prim.Native.Nat.{ℕ, zero, suc, ◌+◌, ◌<◌, ◌≤◌}
use native.Mathlib.Omega.{arith}
use native.Mathlib.Decide.{ℕ_discrete, dec_lt}
use lib.Dec.{eqb}
use borrow.Author.Tests.{eq-eqb, ne_eqb, lt-ltb, le-ltb}
use Rattle.ground.specs.Choice.{pick}
use Rattle.ground.proofs.Bools.{bool_cases, never_both, or_left, or_false}
use Rattle.graph.specs.Graph.{mem, ready, lowest, place, order_from, order}
use Rattle.graph.specs.Placing.{None, Placing, done, step, pos, Once, Before, Turn}
use Rattle.graph.proofs.Ready.{mem_here, mem_there, mem_cases, place_same, place_other, ready_unplaced, ready_reads, placed_shut, Lowest, lowest_law}

-- How many rows below n are not placed

pub unplaced : (ℕ → Bool) → ℕ → ℕ
unplaced P zero = 0
unplaced P (suc n) = pick (P n) 0 1 + unplaced P n

pub unplaced_same : (P Q : ℕ → Bool) (n : ℕ) → ((j : ℕ) → j < n → P j ≡ Q j) → unplaced P n ≡ unplaced Q n
unfolding unplaced
unplaced_same P Q zero h = refl
unplaced_same P Q (suc n) h = ap₂ (λ b m. pick b 0 1 + m) (h n (omega arith)) (unplaced_same P Q n (λ j l. h j (omega arith)))

pub unplaced_most : (P : ℕ → Bool) (n : ℕ) → unplaced P n ≤ n
unfolding unplaced
unplaced_most P zero = omega arith
unplaced_most P (suc n) = bool_cases (P n) (λ e. rw e (omega (arith, unplaced_most P n))) (λ e. rw e (omega (arith, unplaced_most P n)))

unplaced_zero : (P : ℕ → Bool) (n : ℕ) → unplaced P n ≡ 0 → (i : ℕ) → i < n → P i ≡ true
unfolding unplaced
unplaced_zero P zero z i l = absurd (omega arith)
unplaced_zero P (suc n) z i l = go (P n) refl z (λ z'. unplaced_zero P n z' i) (ℕ_discrete i n)
  where
    go : (b : Bool) → P n ≡ b → pick b 0 1 + unplaced P n ≡ 0 → (unplaced P n ≡ 0 → i < n → P i ≡ true) → Dec (i ≡ n) → P i ≡ true
    go true e z' ih (yes q) = ap P q ∙ e
    go true e z' ih (no q) = ih (omega arith) (omega arith)
    go false e z' ih d = absurd (omega arith)

-- placing an unplaced row leaves one less
pub unplaced_place : (P : ℕ → Bool) (r n : ℕ) → r < n → P r ≡ false → suc (unplaced (place P r) n) ≡ unplaced P n
unfolding unplaced
unplaced_place P r zero l e = absurd (omega arith)
unplaced_place P r (suc n) l e = go (ℕ_discrete n r) (λ l'. unplaced_place P r n l' e)
  where
    go : Dec (n ≡ r) → (r < n → suc (unplaced (place P r) n) ≡ unplaced P n) → suc (pick (place P r n) 0 1 + unplaced (place P r) n) ≡ pick (P n) 0 1 + unplaced P n
    go (yes q) ih =
        let same = unplaced_same (place P r) P n (λ j l'. place_other P r j (omega arith)) in
        rw (ap (place P r) q ∙ place_same P r, ap P q ∙ e, same) (omega arith)
    go (no q) ih = rw (place_other P r n q) (omega (arith, ih (omega arith)))

-- a run of the placing, with the marks at its end
pub record Ends (reads : ℕ → List ℕ) (n : ℕ) (P : ℕ → Bool) (L : List ℕ) : Type 0 where
  pub marks : ℕ → Bool
  pub run : Placing reads n P L marks

-- where a row stands
module _ (r : ℕ) (L : List ℕ) (i : ℕ) where
  pub pos_here : i ≡ r → pos (r ∷ L) i ≡ 0
  unfolding pos
  pos_here e = rw (eq-eqb i r e, pos)

  pub pos_there : (i ≡ r → ⊥) → pos (r ∷ L) i ≡ suc (pos L i)
  unfolding pos
  pos_there e = rw (ne_eqb i r e, pos)

or_swap : (a b c : Bool) → (a || b) || c ≡ b || (a || c)
or_swap true true c = refl
or_swap true false c = refl
or_swap false true c = refl
or_swap false false c = refl

module _ (reads : ℕ → List ℕ) (n : ℕ) where
  -- a step of the order, and its end
  pub order_on : (f : ℕ) (P : ℕ → Bool) (r : ℕ) → lowest (ready reads P) n ≡ r → r < n → order_from reads n (suc f) P ≡ r ∷ order_from reads n f (place P r)
  unfolding order_from
  order_on f P r e l = rw (e, lt-ltb r n l, order_from) (rw e)

  pub order_stop : (f : ℕ) (P : ℕ → Bool) → n ≤ lowest (ready reads P) n → order_from reads n (suc f) P ≡ []
  unfolding order_from
  order_stop f P l = rw (le-ltb (lowest (ready reads P) n) n l, order_from)

  -- with as many steps as rows are left the order runs to its end
  from_placing : (f : ℕ) (P : ℕ → Bool) → unplaced P n ≤ f → Ends reads n P (order_from reads n f P)
  unfolding order_from
  from_placing zero P h = record { marks = P; run = done (λ j l. placed_shut reads P j (unplaced_zero P n (omega arith) j l)) }
  from_placing (suc f) P h = go (lowest_law (ready reads P) n) (dec_lt r n) (from_placing f (place P r))
    where
      r : ℕ
      r = lowest (ready reads P) n

      go : Lowest (ready reads P) n r → Dec (r < n) → (unplaced (place P r) n ≤ f → Ends reads n (place P r) (order_from reads n f (place P r)))
          → Ends reads n P (order_from reads n (suc f) P)
      go w (yes l) ih =
          let e = ih (omega (arith, unplaced_place P r n l (ready_unplaced reads P r (w.hit l)))) in
          rw (order_on f P r refl l) (record { marks = e.marks; run = step l (w.hit l) e.run })
      go w (no l) ih =
          let q : r ≡ n = omega (arith, w.top) in
          rw (order_stop f P (omega arith)) (record { marks = P; run = done (subst (None (ready reads P)) q w.first) })

  pub order_placing : (P : ℕ → Bool) → Ends reads n P (order reads n P)
  unfolding order
  order_placing P = from_placing n P (unplaced_most P n)

  -- Laws of a run

  -- no row is ready at its end
  pub placing_stuck : {P Q : ℕ → Bool} {L : List ℕ} → Placing reads n P L Q → None (ready reads Q) n
  placing_stuck (done h) = h
  placing_stuck (step b e run) = placing_stuck run

  -- a row is marked at the end where it was at the start or was placed
  pub placing_marks : {P Q : ℕ → Bool} {L : List ℕ} → Placing reads n P L Q → (i : ℕ) → Q i ≡ P i || mem i L
  unfolding mem place
  placing_marks (done {P} h) i = or_none (P i)
    where
      or_none : (b : Bool) → b ≡ b || false
      or_none true = refl
      or_none false = refl
  placing_marks (step {P} {Q} {r} {L} b e run) i = placing_marks run i ∙ or_swap (eqb i r) (P i) (mem i L)

  pub placing_below : {P Q : ℕ → Bool} {L : List ℕ} → Placing reads n P L Q → (i : ℕ) → mem i L ≡ true → i < n
  unfolding mem
  placing_below (done h) i m = never_both m refl
  placing_below (step {P} {Q} {r} {L} b e run) i m = go (mem_cases i r L m) (placing_below run i)
    where
      go : (i ≡ r) ⊎ (mem i L ≡ true) → (mem i L ≡ true → i < n) → i < n
      go (inl q) ih = omega arith
      go (inr q) ih = ih q

  pub placing_unmarked : {P Q : ℕ → Bool} {L : List ℕ} → Placing reads n P L Q → (i : ℕ) → mem i L ≡ true → P i ≡ false
  unfolding mem place
  placing_unmarked (done h) i m = never_both m refl
  placing_unmarked (step {P} {Q} {r} {L} b e run) i m = go (mem_cases i r L m) (placing_unmarked run i)
    where
      go : (i ≡ r) ⊎ (mem i L ≡ true) → (mem i L ≡ true → place P r i ≡ false) → P i ≡ false
      go (inl q) ih = ap P q ∙ ready_unplaced reads P r e
      go (inr q) ih = (or_false (eqb i r) (P i) (ih q)).1

  pub placing_once : {P Q : ℕ → Bool} {L : List ℕ} → Placing reads n P L Q → Once L
  placing_once (done h) = tt
  placing_once (step {P} {Q} {r} {L} b e run) =
      (bool_cases (mem r L) (λ m. never_both (place_same P r) (placing_unmarked run r m)) (λ m. m), placing_once run)

  -- what a placed row reads was marked at the start or is placed before it
  pub placing_before : {P Q : ℕ → Bool} {L : List ℕ} → Placing reads n P L Q → (i j : ℕ) → mem i L ≡ true → mem j (reads i) ≡ true → P j ≡ false → Before L j i
  unfolding mem
  placing_before (done h) i j m d p = never_both m refl
  placing_before (step {P} {Q} {r} {L} b e run) i j m d p = go (ℕ_discrete i r) (ℕ_discrete j r) (mem_cases i r L m) (placing_before run i j)
    where
      go : Dec (i ≡ r) → Dec (j ≡ r) → (i ≡ r) ⊎ (mem i L ≡ true) → (mem i L ≡ true → mem j (reads i) ≡ true → place P r j ≡ false → Before L j i) → Before (r ∷ L) j i
      go (yes q) d' c ih = never_both (ready_reads reads P r e j (subst (λ (k : ℕ). mem j (reads k) ≡ true) q d)) p
      go (no q) (yes t) c ih = record { among = subst (λ (k : ℕ). mem k (r ∷ L) ≡ true) (sym t) (mem_here r L); earlier = rw (pos_here r L j t, pos_there r L i q) (omega arith) }
      go (no q) (no t) (inl c) ih = absurd (q c)
      go (no q) (no t) (inr c) ih =
          let o = ih c d (place_other P r j t ∙ p) in
          record { among = mem_there j r L o.among; earlier = rw (pos_there r L j t, pos_there r L i q) (omega (arith, o.earlier)) }

  -- the same at a split of the run
  pub placing_turn : {P Q : ℕ → Bool} (A : List ℕ) (r : ℕ) (B : List ℕ) → Placing reads n P (A ++ (r ∷ B)) Q → Turn reads n P A r
  unfolding mem place
  placing_turn {P} [] r B (step b e run) = record {
    below = b;
    unmarked = ready_unplaced reads P r e;
    fresh = refl;
    reads_before = λ j d. or_left (P j) false (ready_reads reads P r e j d);
  }
  placing_turn {P} (a ∷ A) r B (step b e run) =
      let t = placing_turn {P = place P a} A r B run in
      let u = or_false (eqb r a) (P r) t.unmarked in
      record {
        below = t.below;
        unmarked = u.1;
        fresh = rw u.0 t.fresh;
        reads_before = λ j d. sym (or_swap (eqb j a) (P j) (mem j A)) ∙ t.reads_before j d;
      }

  -- LAWS OF THE ORDER

  module _ (P : ℕ → Bool) where
    -- every row in the order is below n
    pub order_below : (i : ℕ) → mem i (order reads n P) ≡ true → i < n
    order_below = placing_below (order_placing P).run

    -- was not marked at the start
    pub order_unmarked : (i : ℕ) → mem i (order reads n P) ≡ true → P i ≡ false
    order_unmarked = placing_unmarked (order_placing P).run

    -- occurs once
    pub order_once : Once (order reads n P)
    order_once = placing_once (order_placing P).run

    -- and what it reads is marked at the start or stands before it
    pub order_before : (i j : ℕ) → mem i (order reads n P) ≡ true → mem j (reads i) ≡ true → P j ≡ false → Before (order reads n P) j i
    order_before = placing_before (order_placing P).run

    -- all four at a split of the order
    pub order_turn : (A : List ℕ) (r : ℕ) (B : List ℕ) → order reads n P ≡ A ++ (r ∷ B) → Turn reads n P A r
    order_turn A r B e = placing_turn A r B (subst (λ (L : List ℕ). Placing reads n P L (order_placing P).marks) e (order_placing P).run)
