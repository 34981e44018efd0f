-- Marks of names, and the walk from the last name to the first.
use mathlib.Core.Path.{◌≡◌, sym, ap, subst, ◌∙◌}
use mathlib.Core.Bool.{Bool, true, false, ◌&&◌}
use mathlib.Core.List.{List, ◌∷◌}
use Prim.Native.Nat.{ℕ, zero, suc, ◌+◌, ◌-◌, ◌*◌, ◌<◌, ◌≤◌}
use native.Mathlib.Omega.{arith}
use native.Mathlib.Numerals.{add-one}
use lib.Dec.{eqb}
use lib.ListN.{length, drop, get_or, set}
use borrow.Author.Tests.{eqb-true}
use Rattle.ground.proofs.Bools.{bool_cases}
use Rattle.netlist.specs.Rules.{taken, distinct}
use Rattle.netlist.specs.View.{word}
use Rattle.marking.specs.Marks.{mark_of, place_of, Marked}
use Rattle.marking.proofs.Laws.{marked_none, marked_more}
use Rattle.checking.specs.Names.{io_name, cell_name, io_names_in, cell_names_in}
use Rattle.checking.proofs.Laws.{ios_cons, io_again, io_once, io_all, cells_same, cells_other, cell_twice, cell_once, cell_all}

-- ROWS FROM THE LAST TO THE FIRST
module _ (S : List ℕ) (n : ℕ) (rows : List ℕ) where
  abbrev ios_from : ℕ → List (List ℕ)
  ios_from i = io_names_in S (n - i) (drop (i * 3) rows)

  pub ios_early : (i : ℕ) → i < n → false ≡ distinct (ios_from i) → false ≡ distinct (io_names_in S n rows)
  ios_early zero h e = let m : n - 0 ≡ n = omega arith in rw m at e
  ios_early (suc i) h e =
      let d : false ≡ distinct (ios_from (i + 1)) = rw (add-one i) e in
      bool_cases (taken (io_name S (drop (i * 3) rows)) (ios_from (i + 1)))
      (λ t. ios_early i (omega arith) (io_again S n i rows (omega arith) (sym t)))
      (λ t. ios_early i (omega arith) (d ∙ io_once S n i rows (omega arith) (sym t)))

  pub ios_first : (i : ℕ) → i ≤ 0 → distinct (ios_from i) ≡ true → true ≡ distinct (io_names_in S n rows)
  ios_first zero h e = let m : n - 0 ≡ n = omega arith in sym (rw m at e)
  ios_first (suc i) h e = absurd (omega arith)

module _ (S : List ℕ) (kind n : ℕ) (rows : List ℕ) where
  abbrev cells_from : ℕ → List (List ℕ)
  cells_from i = cell_names_in S kind (n - i) (drop (i * 9) rows)

  pub cells_early : (i : ℕ) → i < n → false ≡ distinct (cells_from i) → false ≡ distinct (cell_names_in S kind n rows)
  cells_early zero h e = let m : n - 0 ≡ n = omega arith in rw m at e
  cells_early (suc i) h e =
      let d : false ≡ distinct (cells_from (i + 1)) = rw (add-one i) e in
      bool_cases (eqb (word (drop (i * 9) rows) 0) kind && taken (cell_name S (drop (i * 9) rows)) (cells_from (i + 1)))
      (λ t. cells_early i (omega arith) (cell_twice S kind n i rows (omega arith) (sym t)))
      (λ t. cells_early i (omega arith) (d ∙ cell_once S kind n i rows (omega arith) (sym t)))

  pub cells_first : (i : ℕ) → i ≤ 0 → distinct (cells_from i) ≡ true → true ≡ distinct (cell_names_in S kind n rows)
  cells_first zero h e = let m : n - 0 ≡ n = omega arith in sym (rw m at e)
  cells_first (suc i) h e = absurd (omega arith)

-- ONE ROW, where the names behind it have left their marks
module _ (S : List ℕ) (n i : ℕ) (rows seen : List ℕ) (h : i < n) (m : Marked 255 seen (io_names_in S (n - (i + 1)) (drop ((i + 1) * 3) rows))) where
  abbrev io_here : List ℕ
  io_here = io_name S (drop (i * 3) rows)

  abbrev ios_behind : List (List ℕ)
  ios_behind = io_names_in S (n - (i + 1)) (drop ((i + 1) * 3) rows)

  io_marked : (name out : List ℕ) → name ≡ io_here → out ≡ set seen (place_of (mark_of 255 name)) 1 → Marked 255 out (io_names_in S (n - i) (drop (i * 3) rows))
  io_marked name out p o = rw (ios_cons S n i rows h) (subst (λ (l : List ℕ). Marked 255 l (io_here ∷ ios_behind)) (sym (o ∙ ap (λ (l : List ℕ). set seen (place_of (mark_of 255 l)) 1) p)) (marked_more io_here m))

  pub io_new : (name out : List ℕ) → name ≡ io_here → eqb (get_or seen (place_of (mark_of 255 name)) 0) 0 ≡ true → out ≡ set seen (place_of (mark_of 255 name)) 1 → (false ≡ taken io_here ios_behind) × Marked 255 out (io_names_in S (n - i) (drop (i * 3) rows))
  io_new name out p e o = (sym (m.free io_here (subst (λ (l : List ℕ). get_or seen (place_of (mark_of 255 l)) 0 ≡ 0) p (eqb-true _ 0 e))), io_marked name out p o)

  pub io_seen : (name out : List ℕ) (t : Bool) → name ≡ io_here → t ≡ taken name ios_behind → out ≡ set seen (place_of (mark_of 255 name)) 1 → (t ≡ taken io_here ios_behind) × Marked 255 out (io_names_in S (n - i) (drop (i * 3) rows))
  io_seen name out t p k o = (k ∙ ap (λ (l : List ℕ). taken l ios_behind) p, io_marked name out p o)

module _ (S : List ℕ) (kind n i : ℕ) (rows seen : List ℕ) (h : i < n) (m : Marked kind seen (cell_names_in S kind (n - (i + 1)) (drop ((i + 1) * 9) rows))) where
  abbrev cell_here : List ℕ
  cell_here = cell_name S (drop (i * 9) rows)

  abbrev cells_behind : List (List ℕ)
  cells_behind = cell_names_in S kind (n - (i + 1)) (drop ((i + 1) * 9) rows)

  abbrev of_kind : Bool
  of_kind = eqb (word (drop (i * 9) rows) 0) kind

  cell_marked : of_kind ≡ true → (name out : List ℕ) → name ≡ cell_here → out ≡ set seen (place_of (mark_of kind name)) 1 → Marked kind out (cell_names_in S kind (n - i) (drop (i * 9) rows))
  cell_marked g name out p o = rw (cells_same S kind n i rows h g) (subst (λ (l : List ℕ). Marked kind l (cell_here ∷ cells_behind)) (sym (o ∙ ap (λ (l : List ℕ). set seen (place_of (mark_of kind l)) 1) p)) (marked_more cell_here m))

  pub cell_new : of_kind ≡ true → (name out : List ℕ) → name ≡ cell_here → eqb (get_or seen (place_of (mark_of kind name)) 0) 0 ≡ true → out ≡ set seen (place_of (mark_of kind name)) 1 → (false ≡ (of_kind && taken cell_here cells_behind)) × Marked kind out (cell_names_in S kind (n - i) (drop (i * 9) rows))
  cell_new g name out p e o =
      let t : taken cell_here cells_behind ≡ false = m.free cell_here (subst (λ (l : List ℕ). get_or seen (place_of (mark_of kind l)) 0 ≡ 0) p (eqb-true _ 0 e)) in
      (rw (g, t), cell_marked g name out p o)

  pub cell_seen : of_kind ≡ true → (name out : List ℕ) (t : Bool) → name ≡ cell_here → t ≡ taken name cells_behind → out ≡ set seen (place_of (mark_of kind name)) 1 → (t ≡ (of_kind && taken cell_here cells_behind)) × Marked kind out (cell_names_in S kind (n - i) (drop (i * 9) rows))
  cell_seen g name out t p k o =
      let q : taken cell_here cells_behind ≡ (of_kind && taken cell_here cells_behind) = rw g in
      (k ∙ (ap (λ (l : List ℕ). taken l cells_behind) p ∙ q), cell_marked g name out p o)

  pub cell_apart : of_kind ≡ false → (false ≡ (of_kind && taken cell_here cells_behind)) × Marked kind seen (cell_names_in S kind (n - i) (drop (i * 9) rows))
  cell_apart g = (rw g, rw (cells_other S kind n i rows h g) m)

-- THE LOOP: where it starts, and one row before
module _ (S : List ℕ) (n : ℕ) (rows seen : List ℕ) where
  pub ios_start : length seen ≡ 65536 → Marked 255 seen (io_names_in S (n - n) (drop (n * 3) rows)) × (distinct (io_names_in S (n - n) (drop (n * 3) rows)) ≡ true)
  unfolding io_names_in
  ios_start l = let z : n - n ≡ 0 = omega arith in (rw z (marked_none 255 seen l), sym (io_all S n n (drop (n * 3) rows) (omega arith)))

  pub ios_back : (i : ℕ) → 0 < i → Marked 255 seen (io_names_in S (n - i) (drop (i * 3) rows)) → Marked 255 seen (io_names_in S (n - (i - 1 + 1)) (drop ((i - 1 + 1) * 3) rows))
  ios_back i h m = let z : i - 1 + 1 ≡ i = omega arith in rw z m

  pub ios_still : (i : ℕ) → 0 < i → distinct (io_names_in S (n - i) (drop (i * 3) rows)) ≡ true → distinct (io_names_in S (n - (i - 1 + 1)) (drop ((i - 1 + 1) * 3) rows)) ≡ true
  ios_still i h m = let z : i - 1 + 1 ≡ i = omega arith in rw z m

module _ (S : List ℕ) (kind n : ℕ) (rows seen : List ℕ) where
  pub cells_start : length seen ≡ 65536 → Marked kind seen (cell_names_in S kind (n - n) (drop (n * 9) rows)) × (distinct (cell_names_in S kind (n - n) (drop (n * 9) rows)) ≡ true)
  unfolding cell_names_in
  cells_start l = let z : n - n ≡ 0 = omega arith in (rw z (marked_none kind seen l), sym (cell_all S kind n n (drop (n * 9) rows) (omega arith)))

  pub cells_back : (i : ℕ) → 0 < i → Marked kind seen (cell_names_in S kind (n - i) (drop (i * 9) rows)) → Marked kind seen (cell_names_in S kind (n - (i - 1 + 1)) (drop ((i - 1 + 1) * 9) rows))
  cells_back i h m = let z : i - 1 + 1 ≡ i = omega arith in rw z m

  pub cells_still : (i : ℕ) → 0 < i → distinct (cell_names_in S kind (n - i) (drop (i * 9) rows)) ≡ true → distinct (cell_names_in S kind (n - (i - 1 + 1)) (drop ((i - 1 + 1) * 9) rows)) ≡ true
  cells_still i h m = let z : i - 1 + 1 ≡ i = omega arith in rw z m
