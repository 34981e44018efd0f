-- Marks of rows: what changes where a row waits, and where one is placed.
use mathlib.Core.Path.{◌≡◌, refl, ap, ◌∙◌, sym, subst}
use mathlib.Core.Bool.{Bool, true, false, not}
use mathlib.Core.Logic.{◌⊎◌, inl, inr}
use mathlib.Core.List.{List, [], ◌∷◌}
use Prim.Native.Nat.{ℕ, ◌+◌, ◌-◌, ◌<◌, ◌≤◌}
use native.Mathlib.Omega.{arith}
use native.Mathlib.Decide.{ℕ_discrete}
use lib.Dec.{eqb, ltb}
use lib.ListN.{length, get_or, set}
use lib.Seq.{get_or-set_same, get_or-set_other}
use borrow.Author.Tests.{eqb-true, eqb-false, ltb-true, ltb-false, eq-eqb, ne_eqb}
use Rattle.ground.specs.Choice.{pick}
use Rattle.ground.proofs.Bools.{bool_cases, never_both, true_and}
use Rattle.graph.specs.Graph.{mem, all_placed, ready, place}
use Rattle.graph.specs.Placing.{None}
use Rattle.graph.proofs.Ready.{mem_here, mem_there, place_same, place_other, ready_reads, placed_shut}
use Rattle.placing.specs.Marks.{placed_in, first_open, waited_by, on_from, Waits, Waiting, note_of, noted, Noted, Looked}

-- THE FIRST OPEN ROW

module _ (n : ℕ) (P : ℕ → Bool) where
  pub open_row : (xs : List ℕ) → first_open n P xs < n → (mem (first_open n P xs) xs ≡ true) × (P (first_open n P xs) ≡ false)
  unfolding first_open
  open_row [] l = absurd (omega arith)
  open_row (x ∷ xs) l = bool_cases (P x)
      (λ e. let q = open_row xs (rw (e, first_open) at l) in rw (e, first_open) (mem_there _ x xs q.0, q.1))
      (λ e. rw (e, first_open) (mem_here x xs, e))

  -- where there is none all are placed
  pub open_none : (xs : List ℕ) → ((j : ℕ) → mem j xs ≡ true → j < n) → n ≤ first_open n P xs → all_placed P xs ≡ true
  unfolding first_open all_placed
  open_none [] b l = refl
  open_none (x ∷ xs) b l = bool_cases (P x)
      (λ e. true_and (P x) (all_placed P xs) e (open_none xs (λ j m. b j (mem_there j x xs m)) (rw (e, first_open) at l)))
      (λ e. let h : n ≤ x = rw (e, first_open) at l in absurd (omega (arith, b x (mem_here x xs))))

-- THE TWO NEW MARKS

pub record Waited (m row v : ℕ) : Type 0 where
  pub least : 2 ≤ v
  pub most : v ≤ row + 2
  pub lower : 2 ≤ m → v ≤ m

pub waited : (m row : ℕ) → (m ≡ 1 → ⊥) → Waited m row (waited_by m row)
waited m row h = bool_cases (eqb m 0)
    (λ e. let q = eqb-true m 0 e in rw e (record { least = omega arith; most = omega arith; lower = λ l. absurd (omega arith) }))
    (λ e. bool_cases (ltb m (row + 2))
    (λ d. let q : m ≡ 0 → ⊥ = eqb-false m 0 e in let l = ltb-true m (row + 2) d in rw (e, d) (record { least = two q; most = omega arith; lower = λ k. omega arith }))
    (λ d. let l = ltb-false m (row + 2) d in rw (e, d) (record { least = omega arith; most = omega arith; lower = λ k. l })))
  where
    two : (m ≡ 0 → ⊥) → 2 ≤ m
    two q = omega arith

pub record On (m row b : ℕ) : Type 0 where
  pub most : b ≤ row + 1
  pub lower : 2 ≤ m → b + 2 ≤ m

pub on_from_lem : (m row : ℕ) → On m row (on_from m row)
on_from_lem m row = bool_cases (eqb m 0)
    (λ e. let q = eqb-true m 0 e in rw e (record { most = omega arith; lower = λ l. absurd (omega arith) }))
    (λ e. bool_cases (ltb (row + 2) m)
    (λ d. let l = ltb-true (row + 2) m d in rw (e, d) (record { most = omega arith; lower = λ k. omega arith }))
    (λ d. let l = ltb-false (row + 2) m d in rw (e, d) (record { most = omega arith; lower = λ k. omega arith })))

-- MARKS

open_mark : (m : ℕ) → 2 ≤ m → eqb m 1 ≡ false
open_mark m h = ne_eqb m 1 (λ e. omega arith)

module _ (reads : ℕ → List ℕ) (marks : List ℕ) where
  -- a row that waits is not ready
  waits_shut : (i on : ℕ) → Waits reads marks i on → ready reads (placed_in marks) i ≡ false
  waits_shut i on w = bool_cases (ready reads (placed_in marks) i)
      (λ e. never_both (ready_reads reads (placed_in marks) i e on w.read) (open_mark (get_or marks on 0) w.told))
      (λ e. e)

  pub looked_none : (low : ℕ) → Looked reads marks low → None (ready reads (placed_in marks)) low
  looked_none low h i l = go (h i l)
    where
      go : (get_or marks i 0 ≡ 1) ⊎ Waiting reads marks i → ready reads (placed_in marks) i ≡ false
      go (inl e) = placed_shut reads (placed_in marks) i (eq-eqb (get_or marks i 0) 1 e)
      go (inr w) = waits_shut i w.on w.waits

  -- a row is passed that is placed or waits
  pub looked_skip : (low : ℕ) → Looked reads marks low → (get_or marks low 0 ≡ 1) ⊎ Waiting reads marks low → Looked reads marks (low + 1)
  looked_skip low h e i l = go (ℕ_discrete i low)
    where
      go : Dec (i ≡ low) → (get_or marks i 0 ≡ 1) ⊎ Waiting reads marks i
      go (yes q) = subst (λ (j : ℕ). (get_or marks j 0 ≡ 1) ⊎ Waiting reads marks j) (sym q) e
      go (no q) = h i (omega arith)

  -- a row without a note
  pub notes_none : (i : ℕ) → note_of marks i ≡ 0 → Noted reads marks i
  unfolding noted
  notes_none i e = record { most = rw e (omega arith); tells = rw e (λ t. never_both t refl) }

  -- A ROW WAITS: the row w that it reads is marked
  module _ (w v low : ℕ) (there : w < length marks) (free : get_or marks w 0 ≡ 1 → ⊥) (new : Waited (get_or marks w 0) low v) where
    same_at : get_or (set marks w v) w 0 ≡ v
    same_at = get_or-set_same marks w v 0 there

    other_at : (i : ℕ) → (i ≡ w → ⊥) → get_or (set marks w v) i 0 ≡ get_or marks i 0
    other_at i q = get_or-set_other marks w i v 0 q

    pub wait_placed : (i : ℕ) → placed_in (set marks w v) i ≡ placed_in marks i
    wait_placed i = go (ℕ_discrete i w)
      where
        go : Dec (i ≡ w) → placed_in (set marks w v) i ≡ placed_in marks i
        go (yes q) = rw (q, same_at) (open_mark v new.least ∙ sym (ne_eqb (get_or marks w 0) 1 free))
        go (no q) = rw (other_at i q)

    waits_still : (i on : ℕ) → Waits reads marks i on → Waits reads (set marks w v) i on
    waits_still i on s = go (ℕ_discrete on w)
      where
        go : Dec (on ≡ w) → Waits reads (set marks w v) i on
        go (yes q) =
            let t : 2 ≤ get_or marks w 0 = subst (λ (j : ℕ). 2 ≤ get_or marks j 0) q s.told in
            let d : get_or marks w 0 ≤ i + 2 = subst (λ (j : ℕ). get_or marks j 0 ≤ i + 2) q s.least in
            record { read = s.read; told = rw (q, same_at) new.least; least = rw (q, same_at) (omega (arith, new.lower t, d)) }
        go (no q) = record { read = s.read; told = rw (other_at on q) s.told; least = rw (other_at on q) s.least }

    -- a placed row is another one
    placed_still : (i : ℕ) → get_or marks i 0 ≡ 1 → get_or (set marks w v) i 0 ≡ 1
    placed_still i e = other_at i (λ q. free (ap (λ (j : ℕ). get_or marks j 0) (sym q) ∙ e)) ∙ e

    pub waits_now : mem w (reads low) ≡ true → Waits reads (set marks w v) low w
    waits_now r = record { read = r; told = rw same_at new.least; least = rw same_at new.most }

    pub looked_wait : Looked reads marks low → Looked reads (set marks w v) low
    looked_wait h i l = go (h i l)
      where
        go : (get_or marks i 0 ≡ 1) ⊎ Waiting reads marks i → (get_or (set marks w v) i 0 ≡ 1) ⊎ Waiting reads (set marks w v) i
        go (inl e) = inl (placed_still i e)
        go (inr s) = inr (record { on = s.on; waits = waits_still i s.on s.waits })

    pub notes_wait : w < 514 → (i : ℕ) → Noted reads marks i → Noted reads (set marks w v) i
    unfolding noted
    notes_wait b i h =
        let e : note_of (set marks w v) i ≡ note_of marks i = other_at (514 + i) (λ q. omega arith) in
        record { most = rw e h.most; tells = rw (e, wait_placed (note_of marks i - 1)) (λ t. go (h.tells t)) }
      where
        go : (get_or marks i 0 ≡ 1) ⊎ Waits reads marks i (note_of marks i - 1) → (get_or (set marks w v) i 0 ≡ 1) ⊎ Waits reads (set marks w v) i (note_of marks i - 1)
        go (inl q) = inl (placed_still i q)
        go (inr s) = inr (waits_still i (note_of marks i - 1) s)

  -- A ROW IS PLACED
  module _ (r b : ℕ) (there : r < length marks) (free : get_or marks r 0 ≡ 1 → ⊥) (new : On (get_or marks r 0) r b) where
    pub place_placed : (i : ℕ) → placed_in (set marks r 1) i ≡ place (placed_in marks) r i
    place_placed i = go (ℕ_discrete i r)
      where
        go : Dec (i ≡ r) → placed_in (set marks r 1) i ≡ place (placed_in marks) r i
        go (yes q) = rw (q, get_or-set_same marks r 1 0 there) (sym (place_same (placed_in marks) r))
        go (no q) = rw (get_or-set_other marks r i 1 0 q) (sym (place_other (placed_in marks) r i q))

    -- a row that waits for r is not below b; the others wait still
    waits_other : (i on : ℕ) → (on ≡ r → ⊥) → Waits reads marks i on → Waits reads (set marks r 1) i on
    waits_other i on q s = record { read = s.read; told = rw (get_or-set_other marks r on 1 0 q) s.told; least = rw (get_or-set_other marks r on 1 0 q) s.least }

    placed_also : (i : ℕ) → get_or marks i 0 ≡ 1 → get_or (set marks r 1) i 0 ≡ 1
    placed_also i e = get_or-set_other marks r i 1 0 (λ q. free (ap (λ (j : ℕ). get_or marks j 0) (sym q) ∙ e)) ∙ e

    pub placed_now : get_or (set marks r 1) r 0 ≡ 1
    placed_now = get_or-set_same marks r 1 0 there

    pub looked_place : Looked reads marks r → Looked reads (set marks r 1) b
    looked_place h i l = go (ℕ_discrete i r)
      where
        still : (s : Waiting reads marks i) → Dec (s.on ≡ r) → Waiting reads (set marks r 1) i
        still s (yes q) =
            let t : 2 ≤ get_or marks r 0 = subst (λ (j : ℕ). 2 ≤ get_or marks j 0) q s.waits.told in
            let d : get_or marks r 0 ≤ i + 2 = subst (λ (j : ℕ). get_or marks j 0 ≤ i + 2) q s.waits.least in
            absurd (omega (arith, new.lower t, d))
        still s (no q) = record { on = s.on; waits = waits_other i s.on q s.waits }

        old : (get_or marks i 0 ≡ 1) ⊎ Waiting reads marks i → (get_or (set marks r 1) i 0 ≡ 1) ⊎ Waiting reads (set marks r 1) i
        old (inl e) = inl (placed_also i e)
        old (inr s) = inr (still s (ℕ_discrete s.on r))

        go : Dec (i ≡ r) → (get_or (set marks r 1) i 0 ≡ 1) ⊎ Waiting reads (set marks r 1) i
        go (yes q) = inl (rw q placed_now)
        go (no q) = old (h i (omega (arith, new.most)))

    pub notes_place : r < 514 → (i : ℕ) → Noted reads marks i → Noted reads (set marks r 1) i
    unfolding noted
    notes_place d i h =
        let e : note_of (set marks r 1) i ≡ note_of marks i = get_or-set_other marks r (514 + i) 1 0 (λ q. omega arith) in
        record { most = rw e h.most; tells = rw e (λ t. go (ℕ_discrete (note_of marks i - 1) r) t h.tells) }
      where
        x : ℕ
        x = note_of marks i - 1

        old : (x ≡ r → ⊥) → (get_or marks i 0 ≡ 1) ⊎ Waits reads marks i x → (get_or (set marks r 1) i 0 ≡ 1) ⊎ Waits reads (set marks r 1) i x
        old q (inl e) = inl (placed_also i e)
        old q (inr s) = inr (waits_other i x q s)

        go : Dec (x ≡ r) → pick (eqb (note_of marks i) 0) false (not (placed_in (set marks r 1) x)) ≡ true
            → (noted marks i ≡ true → (get_or marks i 0 ≡ 1) ⊎ Waits reads marks i x) → (get_or (set marks r 1) i 0 ≡ 1) ⊎ Waits reads (set marks r 1) i x
        go (yes q) t f = never_both t (shut (eqb (note_of marks i) 0) (placed_in (set marks r 1) x) (eq-eqb _ 1 (ap (λ (j : ℕ). get_or (set marks r 1) j 0) q ∙ placed_now)))
          where
            shut : (a c : Bool) → c ≡ true → pick a false (not c) ≡ false
            shut true c p = refl
            shut false c p = rw p
        go (no q) t f = old q (f (rw (get_or-set_other marks r x 1 0 q) at t))

  -- A ROW IS NOTED: no mark changes
  module _ (k x : ℕ) (there : 514 + k < length marks) where
    mark_stays : (j : ℕ) → j < 514 → get_or (set marks (514 + k) (x + 1)) j 0 ≡ get_or marks j 0
    mark_stays j l = get_or-set_other marks (514 + k) j (x + 1) 0 (λ q. omega arith)

    pub note_placed : (j : ℕ) → j < 514 → placed_in (set marks (514 + k) (x + 1)) j ≡ placed_in marks j
    note_placed j l = rw (mark_stays j l)

    waits_stays : (i on : ℕ) → on < 514 → Waits reads marks i on → Waits reads (set marks (514 + k) (x + 1)) i on
    waits_stays i on l s = record { read = s.read; told = rw (mark_stays on l) s.told; least = rw (mark_stays on l) s.least }

    pub looked_note : (low : ℕ) → low ≤ 512 → ((i j : ℕ) → i < low → mem j (reads i) ≡ true → j < 512) → Looked reads marks low → Looked reads (set marks (514 + k) (x + 1)) low
    looked_note low m b h i l = go (h i l)
      where
        go : (get_or marks i 0 ≡ 1) ⊎ Waiting reads marks i → (get_or (set marks (514 + k) (x + 1)) i 0 ≡ 1) ⊎ Waiting reads (set marks (514 + k) (x + 1)) i
        go (inl e) = inl (mark_stays i (omega arith) ∙ e)
        go (inr s) = inr (record { on = s.on; waits = waits_stays i s.on (omega (arith, b i s.on l s.waits.read)) s.waits })

    pub notes_note : x < 514 → (get_or marks k 0 ≡ 1) ⊎ Waits reads marks k x → (i : ℕ) → i < 512 → k < 512 → Noted reads marks i → Noted reads (set marks (514 + k) (x + 1)) i
    unfolding noted
    notes_note b r i l m h = go (ℕ_discrete i k)
      where
        old : (y : ℕ) → y < 514 → (get_or marks i 0 ≡ 1) ⊎ Waits reads marks i y → (get_or (set marks (514 + k) (x + 1)) i 0 ≡ 1) ⊎ Waits reads (set marks (514 + k) (x + 1)) i y
        old y d (inl e) = inl (mark_stays i (omega arith) ∙ e)
        old y d (inr s) = inr (waits_stays i y d s)

        go : Dec (i ≡ k) → Noted reads (set marks (514 + k) (x + 1)) i
        go (yes q) =
            let e : note_of (set marks (514 + k) (x + 1)) i ≡ x + 1 = rw q (get_or-set_same marks (514 + k) (x + 1) 0 there) in
            let z : x + 1 - 1 ≡ x = omega arith in
            record { most = rw e (omega arith); tells = rw (e, z) (λ t. old x b (subst (λ (j : ℕ). (get_or marks j 0 ≡ 1) ⊎ Waits reads marks j x) (sym q) r)) }
        go (no q) =
            let e : note_of (set marks (514 + k) (x + 1)) i ≡ note_of marks i = get_or-set_other marks (514 + k) (514 + i) (x + 1) 0 (λ p. q (omega arith)) in
            let d : note_of marks i - 1 < 514 = omega (arith, h.most) in
            record { most = rw e h.most; tells = rw (e, note_placed (note_of marks i - 1) d) (λ t. old (note_of marks i - 1) d (h.tells t)) }
