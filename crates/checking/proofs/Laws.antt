-- How the loops over names and I/O rows go on and end.
use Rattle.std.specs.Prelude.{Option, Some, None}
use mathlib.Core.Path.{◌≡◌, refl, sym, ap, ◌∙◌}
use mathlib.Core.Bool.{Bool, true, false, ◌&&◌}
use mathlib.Core.List.{List, ◌∷◌}
use Prim.Native.Nat.{ℕ, zero, suc, ◌+◌, ◌-◌, ◌*◌, ◌<◌, ◌≤◌}
use native.Mathlib.Omega.{arith}
use native.Mathlib.Nat.{add-zero, zero-add}
use lib.Dec.{eqb}
use lib.ListN.{length, drop, take, get_or}
use lib.Seq.{get_or-drop}
use Rattle.ground.specs.Choice.{pick}
use Rattle.ground.specs.Regions.{blank, part}
use Rattle.ground.specs.Text.{same}
use Rattle.ground.proofs.Bools.{bool_cases, and_true}
use Rattle.ground.proofs.Regions.{part_length}
use Rattle.ground.proofs.Rest.{rest_rest}
use Rattle.ground.proofs.Same.{same_turned as same-comm}
use Rattle.netlist.specs.Rules.{taken, distinct}
use Rattle.netlist.specs.View.{word}
use Rattle.pools.specs.Lying.{lies}
use Rattle.checkmeta.proofs.Laws.{lies_is, part_is}
use Rattle.checkcells.specs.Walk.{cell_placed, cell_good, cells_walk}
use Rattle.checkcells.proofs.Laws.{placed_is, good_placed}
use Rattle.checking.specs.Names.{io_name, cell_name, io_names_in, cell_names_in, IosNamed, CellsNamed}
use Rattle.checking.specs.Walk.{io_good, ios_walk}

-- ROWS of w words
pub next_row : (w i : ℕ) (rows : List ℕ) → i * w + w ≡ (i + 1) * w → drop w (drop (i * w) rows) ≡ drop ((i + 1) * w) rows
next_row w i rows e = rest_rest rows (i * w) w ∙ ap (λ (k : ℕ). drop k rows) e

module _ (S : List ℕ) (n i : ℕ) (rows : List ℕ) (h : i < n) where
  pub ios_cons : io_names_in S (n - i) (drop (i * 3) rows) ≡ io_name S (drop (i * 3) rows) ∷ io_names_in S (n - (i + 1)) (drop ((i + 1) * 3) rows)
  unfolding io_names_in
  ios_cons = let m : n - i ≡ suc (n - (i + 1)) = omega arith in rw (m, ← next_row 3 i rows (omega arith))

  module _ (name : List ℕ) where
    pub io_hit : true ≡ same (io_name S (drop (i * 3) rows)) name → true ≡ taken name (io_names_in S (n - i) (drop (i * 3) rows))
    unfolding taken
    io_hit e = sym (rw (ios_cons, same-comm name (io_name S (drop (i * 3) rows)), ← e, taken))

    pub io_miss : false ≡ same (io_name S (drop (i * 3) rows)) name → taken name (io_names_in S (n - (i + 1)) (drop ((i + 1) * 3) rows)) ≡ taken name (io_names_in S (n - i) (drop (i * 3) rows))
    unfolding taken
    io_miss e = sym (rw (ios_cons, same-comm name (io_name S (drop (i * 3) rows)), ← e, taken))

  pub io_again : true ≡ taken (io_name S (drop (i * 3) rows)) (io_names_in S (n - (i + 1)) (drop ((i + 1) * 3) rows)) → false ≡ distinct (io_names_in S (n - i) (drop (i * 3) rows))
  unfolding distinct
  io_again e = sym (rw (ios_cons, ← e, distinct))

  pub io_once : false ≡ taken (io_name S (drop (i * 3) rows)) (io_names_in S (n - (i + 1)) (drop ((i + 1) * 3) rows)) → distinct (io_names_in S (n - (i + 1)) (drop ((i + 1) * 3) rows)) ≡ distinct (io_names_in S (n - i) (drop (i * 3) rows))
  unfolding distinct
  io_once e = sym (rw (ios_cons, ← e, distinct))

pub io_none : (S : List ℕ) (n i : ℕ) (rows name : List ℕ) → n ≤ i → false ≡ taken name (io_names_in S (n - i) rows)
unfolding taken io_names_in
io_none S n i rows name h = let m : n - i ≡ 0 = omega arith in rw m

pub io_all : (S : List ℕ) (n i : ℕ) (rows : List ℕ) → n ≤ i → true ≡ distinct (io_names_in S (n - i) rows)
unfolding distinct io_names_in
io_all S n i rows h = let m : n - i ≡ 0 = omega arith in rw m

module _ (S : List ℕ) (kind n i : ℕ) (rows : List ℕ) (h : i < n) where
  pub cells_same : eqb (word (drop (i * 9) rows) 0) kind ≡ true → cell_names_in S kind (n - i) (drop (i * 9) rows) ≡ cell_name S (drop (i * 9) rows) ∷ cell_names_in S kind (n - (i + 1)) (drop ((i + 1) * 9) rows)
  unfolding cell_names_in
  cells_same e = let m : n - i ≡ suc (n - (i + 1)) = omega arith in rw (m, ← next_row 9 i rows (omega arith)) (rw (e, cell_names_in))

  pub cells_other : eqb (word (drop (i * 9) rows) 0) kind ≡ false → cell_names_in S kind (n - i) (drop (i * 9) rows) ≡ cell_names_in S kind (n - (i + 1)) (drop ((i + 1) * 9) rows)
  unfolding cell_names_in
  cells_other e = let m : n - i ≡ suc (n - (i + 1)) = omega arith in rw (m, ← next_row 9 i rows (omega arith)) (rw (e, cell_names_in))

  abbrev here : Bool
  here = eqb (word (drop (i * 9) rows) 0) kind

  module _ (name : List ℕ) where
    pub cell_hit : true ≡ here && same (cell_name S (drop (i * 9) rows)) name → true ≡ taken name (cell_names_in S kind (n - i) (drop (i * 9) rows))
    unfolding taken
    cell_hit e = let p = and_true here _ (sym e) in sym (rw (cells_same p.0, same-comm name (cell_name S (drop (i * 9) rows)), p.1, taken))

    pub cell_miss : false ≡ here && same (cell_name S (drop (i * 9) rows)) name → taken name (cell_names_in S kind (n - (i + 1)) (drop ((i + 1) * 9) rows)) ≡ taken name (cell_names_in S kind (n - i) (drop (i * 9) rows))
    unfolding taken
    cell_miss e = bool_cases here
        (λ k. let d : false ≡ same (cell_name S (drop (i * 9) rows)) name = rw k at e in sym (rw (cells_same k, same-comm name (cell_name S (drop (i * 9) rows)), ← d, taken)))
        (λ k. rw (cells_other k))

  pub cell_twice : true ≡ here && taken (cell_name S (drop (i * 9) rows)) (cell_names_in S kind (n - (i + 1)) (drop ((i + 1) * 9) rows)) → false ≡ distinct (cell_names_in S kind (n - i) (drop (i * 9) rows))
  unfolding distinct
  cell_twice e = let p = and_true here _ (sym e) in sym (rw (cells_same p.0, p.1, distinct))

  pub cell_once : false ≡ here && taken (cell_name S (drop (i * 9) rows)) (cell_names_in S kind (n - (i + 1)) (drop ((i + 1) * 9) rows)) → distinct (cell_names_in S kind (n - (i + 1)) (drop ((i + 1) * 9) rows)) ≡ distinct (cell_names_in S kind (n - i) (drop (i * 9) rows))
  unfolding distinct
  cell_once e = bool_cases here
      (λ k. let d : false ≡ taken (cell_name S (drop (i * 9) rows)) (cell_names_in S kind (n - (i + 1)) (drop ((i + 1) * 9) rows)) = rw k at e in sym (rw (cells_same k, ← d, distinct)))
      (λ k. rw (cells_other k))

pub cell_none : (S : List ℕ) (kind n i : ℕ) (rows name : List ℕ) → n ≤ i → false ≡ taken name (cell_names_in S kind (n - i) rows)
unfolding taken cell_names_in
cell_none S kind n i rows name h = let m : n - i ≡ 0 = omega arith in rw m

pub cell_all : (S : List ℕ) (kind n i : ℕ) (rows : List ℕ) → n ≤ i → true ≡ distinct (cell_names_in S kind (n - i) rows)
unfolding distinct cell_names_in
cell_all S kind n i rows h = let m : n - i ≡ 0 = omega arith in rw m

-- I/O ROWS
pub io_placed : (s : ℕ) (row : List ℕ) → io_good s row ≡ true → (word row 0 ≡ s) × (s + word row 1 ≤ 16384)
io_placed s row h = lies_is s 16384 (word row 0) (word row 1) (and_true (lies s 16384 (word row 0) (word row 1)) _ h).0

module _ (rows : List ℕ) (i s n : ℕ) where
  pub ios_on : i < n → io_good s (drop (i * 3) rows) ≡ true → ios_walk rows (i + 1) (s + word (drop (i * 3) rows) 1) (n - (i + 1)) ≡ ios_walk rows i s (n - i)
  unfolding ios_walk
  ios_on h e = let k : n - i ≡ suc (n - (i + 1)) = omega arith in rw k (sym (rw (e, ios_walk)))

  pub ios_off : i < n → io_good s (drop (i * 3) rows) ≡ false → None ≡ ios_walk rows i s (n - i)
  unfolding ios_walk
  ios_off h e = let k : n - i ≡ suc (n - (i + 1)) = omega arith in rw k (sym (rw (e, ios_walk)))

  pub ios_end : n ≤ i → pick (blank (drop (i * 3) rows)) (Some s) None ≡ ios_walk rows i s (n - i)
  unfolding ios_walk
  ios_end h = let k : n - i ≡ 0 = omega arith in rw k

pub record Walking (rows : List ℕ) (names n i s : ℕ) : Type 0 where
  pub row : i ≤ n
  pub s_room : s ≤ 16384
  pub is : ios_walk rows i s (n - i) ≡ ios_walk rows 0 names n

pub walking_on : {rows : List ℕ} {names n i s : ℕ} → Walking rows names n i s → i < n → io_good s (drop (i * 3) rows) ≡ true → (x : ℕ) → x ≡ get_or rows (i * 3 + 1) 0 → Walking rows names n (i + 1) (s + x)
walking_on {rows} {names} {n} {i} {s} k h g x p =
    let a : word (drop (i * 3) rows) 1 ≡ x = get_or-drop (i * 3) rows 1 0 ∙ sym p in
    record { row = omega arith; s_room = rw a at (io_placed s (drop (i * 3) rows) g).1; is = (rw a at (ios_on rows i s n h g)) ∙ k.is }

-- a name of the slice, from its place to its end
pub name_part : (S : List ℕ) (a n x y : ℕ) → x ≡ a → y ≡ n → take (x + y - x) (drop x S) ≡ part a n S
name_part S a n x y p q = rw (← p, ← q) (part_is S x y)

-- the words of a row, read in the table
pub row_word : (k j x : ℕ) (rows : List ℕ) → x ≡ get_or rows (k + j) 0 → x ≡ word (drop k rows) j
row_word k j x rows e = e ∙ sym (get_or-drop k rows j 0)

pub row_head : (k x : ℕ) (rows : List ℕ) → x ≡ get_or rows k 0 → x ≡ word (drop k rows) 0
row_head k x rows e = e ∙ sym (get_or-drop k rows 0 0 ∙ rw (add-zero k))

-- WHERE A WALK COMES TO ITS END the names are there
pub ios_there : (left : ℕ) (rows : List ℕ) (i s t : ℕ) → ios_walk rows i s left ≡ Some t → (j : ℕ) → j < left → word (drop ((i + j) * 3) rows) 0 + word (drop ((i + j) * 3) rows) 1 ≤ 16384
unfolding ios_walk
ios_there zero rows i s t w j h = absurd (omega arith)
ios_there (suc left) rows i s t w zero h = rw (add-zero i) (bool_cases (io_good s (drop (i * 3) rows))
    (λ g. let p = io_placed s (drop (i * 3) rows) g in omega (arith, p.0, p.1))
    (λ g. let d : None ≡ Some t = rw (g, ios_walk) at w in let z : ◌≡◌ {A = ℕ} 0 1 = cc (d) in absurd (omega arith)))
ios_there (suc left) rows i s t w (suc j) h = bool_cases (io_good s (drop (i * 3) rows))
    (λ g. let e : i + 1 + j ≡ i + suc j = omega arith in rw e at (ios_there left rows (i + 1) (s + word (drop (i * 3) rows) 1) t (rw (g, ios_walk) at w) j (omega arith)))
    (λ g. let d : None ≡ Some t = rw (g, ios_walk) at w in let z : ◌≡◌ {A = ℕ} 0 1 = cc (d) in absurd (omega arith))

pub ios_named : (S : List ℕ) (n : ℕ) (rows : List ℕ) (s t : ℕ) → length S ≡ 16384 → n * 3 ≤ length rows → ios_walk rows 0 s n ≡ Some t → IosNamed S n rows
ios_named S n rows s t l h w = record {
  long = h;
  each = λ i k. let e : 0 + i ≡ i = zero-add i in rw l (rw e at (ios_there n rows 0 s t w i k));
}

pub cells_there : (left : ℕ) (ws bits runs : List ℕ) (metas : ℕ) (rows : List ℕ) (i s r b d o x y z v w : ℕ) → cells_walk ws bits runs metas rows i s r b d o left ≡ Some (x, y, z, v, w)
    → (j : ℕ) → j < left → word (drop ((i + j) * 9) rows) 2 + word (drop ((i + j) * 9) rows) 3 ≤ 16384
unfolding cells_walk
cells_there zero ws bits runs metas rows i s r b d o x y z v w k j h = absurd (omega arith)
cells_there (suc left) ws bits runs metas rows i s r b d o x y z v w k j h =
    turn (λ out e. cells_there left ws bits runs metas rows (i + 1) (s + word (drop (i * 9) rows) 3) (r + (word (drop (i * 9) rows) 6 + (word (drop (i * 9) rows) 7 + word (drop (i * 9) rows) 8))) e (d + word (drop (i * 9) rows) 1) (o + out) x y z v w)
    (cell_good ws bits runs metas s r b (drop (i * 9) rows)) refl j h
  where
    turn : ((out e : ℕ) → cells_walk ws bits runs metas rows (i + 1) (s + word (drop (i * 9) rows) 3) (r + (word (drop (i * 9) rows) 6 + (word (drop (i * 9) rows) 7 + word (drop (i * 9) rows) 8))) e (d + word (drop (i * 9) rows) 1) (o + out) left ≡ Some (x, y, z, v, w)
        → (j : ℕ) → j < left → word (drop ((i + 1 + j) * 9) rows) 2 + word (drop ((i + 1 + j) * 9) rows) 3 ≤ 16384)
        → (c : Option (ℕ × ℕ)) → cell_good ws bits runs metas s r b (drop (i * 9) rows) ≡ c → (j : ℕ) → j < suc left → word (drop ((i + j) * 9) rows) 2 + word (drop ((i + j) * 9) rows) 3 ≤ 16384
    turn ih None g j h = let f : None ≡ Some (x, y, z, v, w) = rw (g, cells_walk) at k in let u : ◌≡◌ {A = ℕ} 0 1 = cc (f) in absurd (omega arith)
    turn ih (Some (out, e)) g zero h =
        let p = placed_is s r (drop (i * 9) rows) (and_true (cell_placed s r (drop (i * 9) rows)) _ (good_placed ws bits runs metas s r b (drop (i * 9) rows) out e g).1).0 in
        rw (add-zero i) (omega (arith, p.name, p.strings))
    turn ih (Some (out, e)) g (suc j) h = let q : i + 1 + j ≡ i + suc j = omega arith in rw q at (ih out e (rw (g, cells_walk) at k) j (omega arith))

pub cells_named : (S : List ℕ) (n : ℕ) (rows : List ℕ) (ws bits runs : List ℕ) (metas s x y z v w : ℕ) → length S ≡ 16384 → n * 9 ≤ length rows → cells_walk ws bits runs metas rows 0 s 0 0 0 0 n ≡ Some (x, y, z, v, w) → CellsNamed S n rows
cells_named S n rows ws bits runs metas s x y z v w l h k = record {
  long = h;
  each = λ i q. let e : 0 + i ≡ i = zero-add i in rw l (rw e at (cells_there n ws bits runs metas rows 0 s 0 0 0 0 x y z v w k i q));
}

-- a region is as long as its size
pub cut_is : (t : List ℕ) (from size : ℕ) → from + size ≤ length t → (take (from + size - from) (drop from t) ≡ part from size t) × (length (take (from + size - from) (drop from t)) ≡ size)
unfolding part
cut_is t from size h = let e : from + size - from ≡ size = omega arith in rw e (refl, part_length from size t h)
