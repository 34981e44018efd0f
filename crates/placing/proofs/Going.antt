-- A placing under way: its start, its three turns, its end.
use mathlib.Core.Path.{◌≡◌, refl, ap, ◌∙◌, sym, subst}
use mathlib.Core.Bool.{Bool, true, false, not, ◌||◌}
use mathlib.Core.Logic.{◌⊎◌, inl, inr}
use mathlib.Core.List.{List, [], ◌∷◌, ◌++◌, append_assoc, append-nil}
use Prim.Native.Nat.{ℕ, zero, suc, ◌+◌, ◌-◌, ◌<◌, ◌≤◌}
use native.Mathlib.Omega.{arith}
use lib.Dec.{eqb}
use lib.ListN.{length, get_or, set, length-set, length-append}
use borrow.Author.Tests.{ne_eqb, eqb-false}
use Rattle.ground.specs.Regions.{zeros, pad}
use Rattle.ground.proofs.Bools.{true_and, not_of_false}
use Rattle.ground.proofs.Regions.{length_pad, pad_put}
use Rattle.graph.specs.Graph.{mem, ready, lowest, place, order_from, order, some, left_out}
use Rattle.graph.proofs.Ready.{lowest_is}
use Rattle.graph.proofs.Order.{unplaced, unplaced_same, unplaced_most, unplaced_place, order_on, order_stop}
use Rattle.graph.proofs.Same.{Alike, order_from_alike, some_alike}
use Rattle.placing.specs.InTables.{reads_in, apart_in, order_in, ring_in, Inside, PlacedAll}
use Rattle.placing.specs.Marks.{placed_in, first_open, waited_by, on_from, Waits, Waiting, note_of, noted, Begun, Going}
use Rattle.placing.proofs.Marks.{open_row, open_none, Waited, waited, On, on_from_lem, looked_none, looked_skip, notes_none, wait_placed, waits_now, looked_wait, notes_wait, place_placed, placed_now, looked_place, notes_place, note_placed, looked_note, notes_note}

-- a row placed last
mem_last : (i r : ℕ) (xs : List ℕ) (b : Bool) → eqb i r || (b || mem i xs) ≡ b || mem i (xs ++ (r ∷ []))
unfolding mem
mem_last i r [] b = swap (eqb i r) b
  where
    swap : (a b : Bool) → a || (b || false) ≡ b || (a || false)
    swap true true = refl
    swap true false = refl
    swap false true = refl
    swap false false = refl
mem_last i r (x ∷ xs) b = swap (eqb i r) b (eqb i x) (mem i xs) ∙ ap (λ (t : Bool). b || (eqb i x || t)) (mem_last i r xs false)
  where
    swap : (a b c d : Bool) → a || (b || (c || d)) ≡ b || (c || (a || (false || d)))
    swap true true c d = refl
    swap true false true d = refl
    swap true false false d = refl
    swap false true c d = refl
    swap false false true d = refl
    swap false false false d = refl

placed_last : (marks xs : List ℕ) (r i : ℕ) (b : Bool) → placed_in marks i ≡ b || mem i xs → place (placed_in marks) r i ≡ b || mem i (xs ++ (r ∷ []))
unfolding place
placed_last marks xs r i b q = ap (λ (t : Bool). eqb i r || t) q ∙ mem_last i r xs b

module _ (cells runs : List ℕ) (n : ℕ) (inside : Inside cells runs n) where
  abbrev reads : ℕ → List ℕ
  reads = reads_in cells runs

  left_alike : (f : ℕ) (P Q : ℕ → Bool) → Alike P Q n → order_from reads n f P ≡ order_from reads n f Q
  left_alike f P Q h = order_from_alike reads reads n (λ i l. refl) inside.reads_there f P Q h

  -- at the start the inputs and outputs are marked
  pub going_start : (rows marks : List ℕ) → rows ≡ zeros 512 → Begun cells n marks → Going cells runs n rows marks 0 0
  unfolding mem order_in order pad
  going_start rows marks z h = record {
    so_far = [];
    rows_are = z;
    counted = refl;
    long = h.long;
    below = omega arith;
    looked = λ i k. absurd (omega arith);
    notes = λ i k. notes_none reads marks i (h.unnoted i);
    marked = λ i k. h.apart i k ∙ or_none (apart_in cells i);
    room = omega (arith, unplaced_most (placed_in marks) n);
    rest = let e : n - 0 ≡ n = omega arith in rw e (left_alike n (placed_in marks) (apart_in cells) h.apart);
  }
    where
      or_none : (b : Bool) → b ≡ b || false
      or_none true = refl
      or_none false = refl

  -- a note changes no mark
  going_note : {rows marks : List ℕ} {low count : ℕ} → Going cells runs n rows marks low count → (k x : ℕ) → k < n → x < 514 → (get_or marks k 0 ≡ 1) ⊎ Waits reads marks k x
      → Going cells runs n rows (set marks (514 + k) (x + 1)) low count
  going_note {rows} {marks} {low} {count} g k x b m r =
      let few = inside.few in
      let there : 514 + k < length marks = omega (arith, g.long) in
      let same : Alike (placed_in (set marks (514 + k) (x + 1))) (placed_in marks) n = λ i l. note_placed reads marks k x there i (omega arith) in
      record {
        so_far = g.so_far;
        rows_are = g.rows_are;
        counted = g.counted;
        long = length-set marks (514 + k) (x + 1) ∙ g.long;
        below = g.below;
        looked = looked_note reads marks k x there low (omega (arith, g.below)) (λ i j l d. omega (arith, inside.reads_there i j (omega (arith, g.below)) d)) g.looked;
        notes = λ i l. notes_note reads marks k x there m r i (omega arith) (omega arith) (g.notes i l);
        marked = λ i l. same i l ∙ g.marked i l;
        room = omega (arith, g.room, unplaced_same (placed_in (set marks (514 + k) (x + 1))) (placed_in marks) n same);
        rest = ap (λ (L : List ℕ). g.so_far ++ L) (left_alike (n - count) (placed_in (set marks (514 + k) (x + 1))) (placed_in marks) same) ∙ g.rest;
      }

  module _ {rows marks : List ℕ} {low count : ℕ} (g : Going cells runs n rows marks low count) (l : low < n) where
    pub note_there : 514 + low < length marks
    note_there = omega (arith, g.long, inside.few)

    -- a row is passed
    going_on : (get_or marks low 0 ≡ 1) ⊎ Waiting reads marks low → Going cells runs n rows marks (low + 1) count
    going_on e = record {
      so_far = g.so_far;
      rows_are = g.rows_are;
      counted = g.counted;
      long = g.long;
      below = omega arith;
      looked = looked_skip reads marks low g.looked e;
      notes = g.notes;
      marked = g.marked;
      room = g.room;
      rest = g.rest;
    }

    -- one that is placed
    pub going_skip : get_or marks low 0 ≡ 1 → Going cells runs n rows marks (low + 1) count
    going_skip e = going_on (inl e)

    -- one whose note still holds
    pub going_still : (b : Bool) → b ≡ noted marks low → b ≡ true → Going cells runs n rows marks (low + 1) count
    going_still b e t = going_on (go ((g.notes low l).tells (sym e ∙ t)))
      where
        go : (get_or marks low 0 ≡ 1) ⊎ Waits reads marks low (note_of marks low - 1) → (get_or marks low 0 ≡ 1) ⊎ Waiting reads marks low
        go (inl q) = inl q
        go (inr s) = inr (record { on = note_of marks low - 1; waits = s })

    -- a row waits for one that it reads
    module _ (w : ℕ) (o : w ≡ first_open n (placed_in marks) (reads low)) (b : w < n) where
      first : (mem w (reads low) ≡ true) × (placed_in marks w ≡ false)
      first = rw o (open_row n (placed_in marks) (reads low) (rw o at b))

      free : get_or marks w 0 ≡ 1 → ⊥
      free = eqb-false (get_or marks w 0) 1 first.1

      pub wait_there : w < length marks
      wait_there = omega (arith, g.long, inside.few)

      module _ (v : ℕ) (e : v ≡ waited_by (get_or marks w 0) low) where
        fresh : Waited (get_or marks w 0) low v
        fresh = rw e (waited (get_or marks w 0) low free)

        told : Waits reads (set marks w v) low w
        told = waits_now reads marks w v low wait_there free fresh first.0

        marked_wait : Going cells runs n rows (set marks w v) (low + 1) count
        marked_wait =
            let same : Alike (placed_in (set marks w v)) (placed_in marks) n = λ i k. wait_placed reads marks w v low wait_there free fresh i in
            record {
              so_far = g.so_far;
              rows_are = g.rows_are;
              counted = g.counted;
              long = length-set marks w v ∙ g.long;
              below = omega arith;
              looked = looked_skip reads (set marks w v) low (looked_wait reads marks w v low wait_there free fresh g.looked) (inr (record { on = w; waits = told }));
              notes = λ i k. notes_wait reads marks w v low wait_there free fresh (omega (arith, inside.few)) i (g.notes i k);
              marked = λ i k. same i k ∙ g.marked i k;
              room = omega (arith, g.room, unplaced_same (placed_in (set marks w v)) (placed_in marks) n same);
              rest = ap (λ (L : List ℕ). g.so_far ++ L) (left_alike (n - count) (placed_in (set marks w v)) (placed_in marks) same) ∙ g.rest;
            }

        pub going_wait : Going cells runs n rows (set (set marks w v) (514 + low) (w + 1)) (low + 1) count
        going_wait = going_note marked_wait low w l (omega (arith, inside.few)) (inr told)

    -- a row is placed whose reads are
    module _ (free : get_or marks low 0 ≡ 1 → ⊥) where
      unmarked : placed_in marks low ≡ false
      unmarked = ne_eqb (get_or marks low 0) 1 free

      one_less : suc (unplaced (place (placed_in marks) low) n) ≡ unplaced (placed_in marks) n
      one_less = unplaced_place (placed_in marks) low n l unmarked

      pub place_room : count < n
      place_room = omega (arith, g.room, one_less)

      place_there : low < length marks
      place_there = omega (arith, g.long, inside.few)

      is_lowest : n ≤ first_open n (placed_in marks) (reads low) → lowest (ready reads (placed_in marks)) n ≡ low
      unfolding ready
      is_lowest o = lowest_is (ready reads (placed_in marks)) n low (record {
        top = omega arith;
        first = looked_none reads marks low g.looked;
        hit = λ k. true_and _ _ (not_of_false (placed_in marks low) unmarked) (open_none n (placed_in marks) (reads low) (λ j m. inside.reads_there low j l m) o);
      })

      marked_place : (b : ℕ) → n ≤ first_open n (placed_in marks) (reads low) → b ≡ on_from (get_or marks low 0) low → Going cells runs n (set rows count low) (set marks low 1) b (count + 1)
      marked_place b o e =
          let new : On (get_or marks low 0) low b = rw e (on_from_lem (get_or marks low 0) low) in
          let same : Alike (placed_in (set marks low 1)) (place (placed_in marks) low) n = λ i k. place_placed reads marks low b place_there free new i in
          let f : n - count ≡ suc (n - (count + 1)) = omega (arith, place_room) in
          let next : order_from reads n (n - count) (placed_in marks) ≡ low ∷ order_from reads n (n - (count + 1)) (place (placed_in marks) low) = rw f (order_on reads n (n - (count + 1)) (placed_in marks) low (is_lowest o) l) in
          record {
            so_far = g.so_far ++ (low ∷ []);
            rows_are = ap (λ (t : List ℕ). set t count low) g.rows_are ∙ pad_put 512 count g.so_far (low ∷ []) g.counted (omega (arith, g.counted, place_room, inside.few));
            counted = rw length-append (omega (arith, g.counted));
            long = length-set marks low 1 ∙ g.long;
            below = omega (arith, new.most);
            looked = looked_place reads marks low b place_there free new g.looked;
            notes = λ i k. notes_place reads marks low b place_there free new (omega (arith, inside.few)) i (g.notes i k);
            marked = λ i k. same i k ∙ placed_last marks g.so_far low i (apart_in cells i) (g.marked i k);
            room = omega (arith, g.room, one_less, unplaced_same (placed_in (set marks low 1)) (place (placed_in marks) low) n same);
            rest =
                append_assoc g.so_far (low ∷ []) (order_from reads n (n - (count + 1)) (placed_in (set marks low 1)))
                ∙ ap (λ (L : List ℕ). g.so_far ++ (low ∷ L)) (left_alike (n - (count + 1)) (placed_in (set marks low 1)) (place (placed_in marks) low) same)
                ∙ ap (λ (L : List ℕ). g.so_far ++ L) (sym next)
                ∙ g.rest;
          }

      pub going_place : (b : ℕ) → n ≤ first_open n (placed_in marks) (reads low) → b ≡ on_from (get_or marks low 0) low
          → Going cells runs n (set rows count low) (set (set marks low 1) (514 + low) (513 + 1)) b (count + 1)
      going_place b o e =
          let new : On (get_or marks low 0) low b = rw e (on_from_lem (get_or marks low 0) low) in
          going_note (marked_place b o e) low 513 l (omega arith) (inl (placed_now reads marks low b place_there free new))

  pub going_rows : {rows marks : List ℕ} {low count : ℕ} → Going cells runs n rows marks low count → length rows ≡ 512
  going_rows g = ap length g.rows_are ∙ length_pad 512 g.so_far (omega (arith, g.counted, g.room, inside.few))

  -- all rows looked at
  pub going_last : {rows marks : List ℕ} {low count : ℕ} → Going cells runs n rows marks low count → n ≤ low → Going cells runs n rows marks n count
  going_last {rows} {marks} {low} {count} g l = let e : low ≡ n = omega (arith, g.below) in subst (λ (k : ℕ). Going cells runs n rows marks k count) e g

  -- THE END: no row is ready
  module _ {rows marks : List ℕ} {count : ℕ} (g : Going cells runs n rows marks n count) where
    no_more : order_from reads n (n - count) (placed_in marks) ≡ []
    unfolding order_from
    no_more = go (n - count)
      where
        w : lowest (ready reads (placed_in marks)) n ≡ n
        w = lowest_is (ready reads (placed_in marks)) n n (record { top = omega arith; first = looked_none reads marks n g.looked; hit = λ k. absurd (omega arith) })

        go : (f : ℕ) → order_from reads n f (placed_in marks) ≡ []
        go zero = refl
        go (suc f) = order_stop reads n f (placed_in marks) (omega (arith, w))

    pub all_placed_lem : g.so_far ≡ order_in cells runs n
    all_placed_lem = sym (ap (λ (L : List ℕ). g.so_far ++ L) no_more ∙ append-nil g.so_far) ∙ g.rest

    pub end_rows : rows ≡ pad 512 (order_in cells runs n)
    end_rows = g.rows_are ∙ ap (pad 512) all_placed_lem

    pub end_count : count ≡ length (order_in cells runs n)
    end_count = g.counted ∙ ap length all_placed_lem

    pub end_ring : some (λ i. not (placed_in marks i)) n ≡ ring_in cells runs n
    unfolding ring_in left_out order_in
    end_ring = some_alike (λ i. not (placed_in marks i)) (λ i. not (apart_in cells i || mem i (order_in cells runs n))) n
        (λ i l. ap not (g.marked i l ∙ ap (λ (L : List ℕ). apart_in cells i || mem i L) all_placed_lem))

    pub end_all : (marks' : List ℕ) (ring : Bool) → marks' ≡ zeros (length marks) → ring ≡ some (λ i. not (placed_in marks i)) n → PlacedAll cells runs n rows marks' (record { count = count; ring = ring })
    end_all marks' ring z r = record { rows_are = end_rows; clear = z ∙ ap zeros g.long; count = end_count; ring = r ∙ end_ring }
