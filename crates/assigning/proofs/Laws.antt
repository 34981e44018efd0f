-- Laws of rows of cells, and what each walk over them has done so far.
use Prim.Native.Nat.{ℕ, zero, suc, ◌+◌, ◌-◌, ◌*◌, ◌<◌, ◌≤◌}
use mathlib.Core.Path.{◌≡◌, refl, sym, ap, ap₂, ◌∙◌}
use mathlib.Core.Bool.{Bool, true, false}
use mathlib.Core.List.{List, [], ◌∷◌}
use native.Mathlib.Omega.{arith}
use native.Mathlib.Numerals.{add-one}
use lib.Dec.{eqb}
use lib.ListN.{length, drop, take, get_or, set, length-set, length-take, length-drop}
use lib.Seq.{sets, length-sets, drop-drop, get_or-drop, get_or-take, take_all}
use Rattle.ground.specs.Choice.{pick}
use Rattle.ground.specs.Regions.{part}
use Rattle.ground.proofs.Bools.{bool_cases}
use Rattle.ground.proofs.Regions.{part_length}
use Rattle.ground.proofs.Writes.{sets_more}
use Rattle.kinds.specs.Kinds.{input_kind}
use Rattle.assigning.specs.Rows.{width_in, input_in, rows_total, starts_from, assigned_in}

-- ROWS from the i-th on
pub row_next : (rows : List ℕ) (i : ℕ) → drop ((i + 1) * 9) rows ≡ drop 9 (drop (i * 9) rows)
row_next rows i = let m : (i + 1) * 9 ≡ i * 9 + 9 = omega arith in rw m (sym (drop-drop 9 (i * 9) rows))

pub row_kind : (rows : List ℕ) (i : ℕ) → get_or (drop (i * 9) rows) 0 0 ≡ get_or rows (i * 9) 0
row_kind rows i = let m : i * 9 + 0 ≡ i * 9 = omega arith in get_or-drop (i * 9) rows 0 0 ∙ ap (λ (k : ℕ). get_or rows k 0) m

pub row_width : (rows : List ℕ) (i : ℕ) → width_in (drop (i * 9) rows) ≡ get_or rows (i * 9 + 1) 0
row_width rows i = get_or-drop (i * 9) rows 1 0

pub row_input : (rows : List ℕ) (i : ℕ) → input_in (drop (i * 9) rows) ≡ pick (eqb (get_or rows (i * 9) 0) input_kind) (get_or rows (i * 9 + 1) 0) 0
row_input rows i = ap₂ (λ (k w : ℕ). pick (eqb k input_kind) w 0) (row_kind rows i) (row_width rows i)

pub input_narrow : (row : List ℕ) → input_in row ≤ width_in row
input_narrow row = bool_cases (eqb (get_or row 0 0) input_kind) (λ e. rw e (omega arith)) (λ e. rw e (omega arith))

-- SUMS over the rows from the i-th on
module _ (f : List ℕ → ℕ) (rows : List ℕ) (n : ℕ) where
  pub total_more : (i : ℕ) → i < n → rows_total f (n - i) (drop (i * 9) rows) ≡ f (drop (i * 9) rows) + rows_total f (n - (i + 1)) (drop ((i + 1) * 9) rows)
  unfolding rows_total
  total_more i h = let e : n - i ≡ suc (n - (i + 1)) = omega arith in rw (e, row_next rows i)

  pub total_end : (i : ℕ) → n ≤ i → rows_total f (n - i) (drop (i * 9) rows) ≡ 0
  unfolding rows_total
  total_end i h = let e : n - i ≡ 0 = omega arith in rw e

  pub total_start : rows_total f (n - 0) (drop (0 * 9) rows) ≡ rows_total f n rows
  total_start = let e : n - 0 ≡ n = omega arith in rw e

-- one row more at the end
pub total_last : (f : List ℕ → ℕ) (n : ℕ) (rows : List ℕ) → rows_total f (suc n) rows ≡ rows_total f n rows + f (drop (n * 9) rows)
unfolding rows_total
total_last f zero rows = omega arith
total_last f (suc n) rows =
    let m : suc n * 9 ≡ 9 + n * 9 = omega arith in
    let d : drop (n * 9) (drop 9 rows) ≡ drop (suc n * 9) rows = drop-drop (n * 9) 9 rows ∙ ap (λ (k : ℕ). drop k rows) (sym m) in
    omega (arith, total_last f n (drop 9 rows), ap f d)

-- where a row's bits begin is the sum of the widths before it
pub starts_at : (n s : ℕ) (rows : List ℕ) (j : ℕ) → j < n → get_or (starts_from s n rows) j 0 ≡ s + rows_total width_in j rows
unfolding starts_from rows_total
starts_at zero s rows j h = absurd (omega arith)
starts_at (suc n) s rows zero h = omega arith
starts_at (suc n) s rows (suc j) h = starts_at n (s + width_in rows) (drop 9 rows) j (omega arith) ∙ (omega arith)

pub starts_length : (n s : ℕ) (rows : List ℕ) → length (starts_from s n rows) ≡ n
unfolding starts_from
starts_length zero s rows = refl
starts_length (suc n) s rows = ap suc (starts_length n _ (drop 9 rows))

-- THE STARTS OF i ROWS OF n ARE WRITTEN
pub record Started (rows : List ℕ) (n : ℕ) (old : List ℕ) (i start : ℕ) (starts : List ℕ) : Type 0 where
  pub left : sets starts i (starts_from start (n - i) (drop (i * 9) rows)) ≡ sets old 0 (starts_from 0 n rows)
  pub sum : start + rows_total width_in (n - i) (drop (i * 9) rows) ≡ rows_total width_in n rows
  pub long : length starts ≡ length old

pub started_none : (rows : List ℕ) (n : ℕ) (old : List ℕ) → Started rows n old 0 0 old
started_none rows n old = let e : n - 0 ≡ n = omega arith in record { left = rw e; sum = omega (arith, total_start width_in rows n); long = refl }

module _ {rows old starts : List ℕ} {n i start : ℕ} (s : Started rows n old i start starts) where
  pub start_room : i < n → start + get_or rows (i * 9 + 1) 0 ≤ rows_total width_in n rows
  start_room h = omega (arith, s.sum, total_more width_in rows n i h, row_width rows i)

  pub started_more : i < n → Started rows n old (i + 1) (start + get_or rows (i * 9 + 1) 0) (set starts i start)
  unfolding starts_from
  started_more h =
      let e : n - i ≡ suc (n - (i + 1)) = omega arith in
      record {
        left = rw (row_next rows i, ← row_width rows i, add-one i) (rw (add-one i) at (rw (e, starts_from) at s.left));
        sum = omega (arith, s.sum, total_more width_in rows n i h, row_width rows i);
        long = simp length-set s.long;
      }

  pub started_all : n ≤ i → starts ≡ sets old 0 (starts_from 0 n rows)
  unfolding starts_from
  started_all h = let e : n - i ≡ 0 = omega arith in rw (e, starts_from) at s.left

-- THE INPUT BITS OF i ROWS OF n ARE COUNTED
pub record Counted (rows : List ℕ) (n i count : ℕ) : Type 0 where
  pub sum : count + rows_total input_in (n - i) (drop (i * 9) rows) ≡ rows_total input_in n rows

pub counted_none : (rows : List ℕ) (n : ℕ) → Counted rows n 0 0
counted_none rows n = record { sum = omega (arith, total_start input_in rows n) }

module _ {rows : List ℕ} {n i count : ℕ} (c : Counted rows n i count) (w : ℕ) (e : w ≡ pick (eqb (get_or rows (i * 9) 0) input_kind) (get_or rows (i * 9 + 1) 0) 0) (h : i < n) where
  pub count_room : count + w ≤ rows_total input_in n rows
  count_room = omega (arith, c.sum, total_more input_in rows n i h, row_input rows i)

  pub counted_more : Counted rows n (i + 1) (count + w)
  counted_more = record { sum = omega (arith, c.sum, total_more input_in rows n i h, row_input rows i) }

pub counted_all : {rows : List ℕ} {n i count : ℕ} → Counted rows n i count → n ≤ i → count ≡ rows_total input_in n rows
counted_all {rows} {n} {i} c h = omega (arith, c.sum, total_end input_in rows n i h)

-- i BITS ARE COPIED
module _ (from : List ℕ) (at size : ℕ) (room : at + size ≤ length from) where
  pub copied_more : (to old : List ℕ) (place i : ℕ) → i < size → to ≡ sets old place (take i (part at size from)) → set to (place + i) (get_or from (at + i) 0) ≡ sets old place (take (i + 1) (part at size from))
  unfolding part
  copied_more to old place i h e =
      let l : i < length (part at size from) = omega (arith, part_length at size from room) in
      let g : get_or from (at + i) 0 ≡ get_or (part at size from) i 0 = sym (get_or-take size (drop at from) i 0 h ∙ get_or-drop at from i 0) in
      rw (e, g) (sets_more old place (part at size from) i l)

  pub copied_all : (to old : List ℕ) (place i : ℕ) → size ≤ i → to ≡ sets old place (take i (part at size from)) → to ≡ sets old place (part at size from)
  copied_all to old place i h e = e ∙ ap (sets old place) (take_all i (part at size from) (omega (arith, part_length at size from room)))

-- THE INPUTS AMONG i ROWS OF n ARE ASSIGNED
pub record Assigned (rows : List ℕ) (n : ℕ) (ins old : List ℕ) (i start at : ℕ) (values : List ℕ) : Type 0 where
  pub left : assigned_in (n - i) (drop (i * 9) rows) ins start at values ≡ assigned_in n rows ins 0 0 old
  pub bits : start + rows_total width_in (n - i) (drop (i * 9) rows) ≡ rows_total width_in n rows
  pub taken : at + rows_total input_in (n - i) (drop (i * 9) rows) ≡ rows_total input_in n rows
  pub long : length values ≡ length old

pub assigned_none : (rows : List ℕ) (n : ℕ) (ins old : List ℕ) → Assigned rows n ins old 0 0 0 old
assigned_none rows n ins old =
    let e : n - 0 ≡ n = omega arith in
    record { left = rw e; bits = omega (arith, total_start width_in rows n); taken = omega (arith, total_start input_in rows n); long = refl }

module _ {rows ins old values : List ℕ} {n i start at : ℕ} (a : Assigned rows n ins old i start at values) (w t : ℕ) (p : w ≡ get_or rows (i * 9 + 1) 0)
    (q : t ≡ pick (eqb (get_or rows (i * 9) 0) input_kind) (get_or rows (i * 9 + 1) 0) 0) (h : i < n) where
  pub assign_taken : at + t ≤ rows_total input_in n rows
  assign_taken = omega (arith, a.taken, total_more input_in rows n i h, row_input rows i)

  pub assign_bits : start + w ≤ rows_total width_in n rows
  assign_bits = omega (arith, a.bits, total_more width_in rows n i h, row_width rows i)

  pub assign_room : start + t ≤ rows_total width_in n rows
  assign_room = omega (arith, assign_bits, row_input rows i, row_width rows i, input_narrow (drop (i * 9) rows))

  pub assigned_more : (values' : List ℕ) → values' ≡ sets values start (part at t ins) → Assigned rows n ins old (i + 1) (start + w) (at + t) values'
  unfolding assigned_in
  assigned_more values' v =
      let e : n - i ≡ suc (n - (i + 1)) = omega arith in
      let x : w ≡ width_in (drop (i * 9) rows) = p ∙ sym (row_width rows i) in
      let y : t ≡ input_in (drop (i * 9) rows) = q ∙ sym (row_input rows i) in
      record {
        left = rw (v, x, y, row_next rows i) (rw (e, assigned_in) at a.left);
        bits = omega (arith, a.bits, total_more width_in rows n i h, row_width rows i);
        taken = omega (arith, a.taken, total_more input_in rows n i h, row_input rows i);
        long = rw v (length-sets values start (part at t ins)) ∙ a.long;
      }

pub assigned_all : {rows ins old values : List ℕ} {n i start at : ℕ} → Assigned rows n ins old i start at values → n ≤ i → values ≡ assigned_in n rows ins 0 0 old
unfolding assigned_in
assigned_all {rows} {ins} {old} {values} {n} {i} a h = let e : n - i ≡ 0 = omega arith in rw (e, assigned_in) at a.left
