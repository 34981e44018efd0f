-- Where assigned bits stand: an input's bits where its row's bits begin.
use Prim.Native.Nat.{ℕ, zero, suc, ◌+◌, ◌*◌, ◌<◌, ◌≤◌}
use mathlib.Core.Path.{◌≡◌, refl, sym, ap, ap₂, ◌∙◌}
use mathlib.Core.Bool.{true, false}
use mathlib.Core.List.{List, [], ◌∷◌}
use native.Mathlib.Omega.{arith}
use lib.Dec.{eqb}
use lib.ListN.{length, drop, get_or}
use lib.Seq.{sets, length-sets, drop-drop}
use Rattle.ground.specs.Choice.{pick}
use Rattle.ground.specs.Regions.{part}
use Rattle.ground.proofs.Regions.{part_length}
use Rattle.kinds.specs.Kinds.{input_kind}
use Rattle.assigning.specs.Rows.{width_in, input_in, rows_total, assigned_in}
use Rattle.assigning.proofs.Laws.{input_narrow}
use Rattle.assigning.proofs.Parts.{part_written, part_behind}

pub assigned_length : (n : ℕ) (rows ins : List ℕ) (s at : ℕ) (values : List ℕ) → length (assigned_in n rows ins s at values) ≡ length values
unfolding assigned_in
assigned_length zero rows ins s at values = refl
assigned_length (suc n) rows ins s at values =
    assigned_length n (drop 9 rows) ins (s + width_in rows) (at + input_in rows) (sets values s (part at (input_in rows) ins))
    ∙ length-sets values s (part at (input_in rows) ins)

-- what lies before the first row's bits stays
assigned_behind : (u w n : ℕ) (rows ins : List ℕ) (s at : ℕ) (values : List ℕ) → u + w ≤ s → part u w (assigned_in n rows ins s at values) ≡ part u w values
unfolding assigned_in
assigned_behind u w zero rows ins s at values h = refl
assigned_behind u w (suc n) rows ins s at values h =
    assigned_behind u w n (drop 9 rows) ins (s + width_in rows) (at + input_in rows) (sets values s (part at (input_in rows) ins)) (omega arith)
    ∙ part_behind u w values s (part at (input_in rows) ins) h

row_of : (rows : List ℕ) (j : ℕ) → drop (j * 9) (drop 9 rows) ≡ drop (suc j * 9) rows
row_of rows j = let m : 9 + j * 9 ≡ suc j * 9 = omega arith in drop-drop (j * 9) 9 rows ∙ ap (λ (k : ℕ). drop k rows) m

-- AN INPUT'S BITS ARE THOSE ASSIGNED TO IT
pub assigned_at : (n : ℕ) (rows ins : List ℕ) (s at : ℕ) (values : List ℕ) → s + rows_total width_in n rows ≤ length values → at + rows_total input_in n rows ≤ length ins
    → (j : ℕ) → j < n → eqb (get_or (drop (j * 9) rows) 0 0) input_kind ≡ true
    → part (s + rows_total width_in j rows) (width_in (drop (j * 9) rows)) (assigned_in n rows ins s at values) ≡ part (at + rows_total input_in j rows) (width_in (drop (j * 9) rows)) ins
unfolding assigned_in rows_total
assigned_at zero rows ins s at values p q j h e = absurd (omega arith)
assigned_at (suc n) rows ins s at values p q zero h e =
    let w = width_in rows in
    let i : input_in rows ≡ w = rw e in
    let x = part at w ins in
    let l : length x ≡ w = part_length at w ins (omega arith) in
    let a : s + 0 ≡ s = omega arith in
    let b : at + 0 ≡ at = omega arith in
    rw (a, b) (assigned_behind s w n (drop 9 rows) ins (s + w) (at + input_in rows) (sets values s (part at (input_in rows) ins)) (omega arith)
    ∙ ap (λ (k : ℕ). part s w (sets values s (part at k ins))) i
    ∙ ap (λ (k : ℕ). part s k (sets values s x)) (sym l)
    ∙ part_written values s x (omega arith))
assigned_at (suc n) rows ins s at values p q (suc j) h e =
    let next = sets values s (part at (input_in rows) ins) in
    let a : s + width_in rows + rows_total width_in j (drop 9 rows) ≡ s + (width_in rows + rows_total width_in j (drop 9 rows)) = omega arith in
    let b : at + input_in rows + rows_total input_in j (drop 9 rows) ≡ at + (input_in rows + rows_total input_in j (drop 9 rows)) = omega arith in
    let g = assigned_at n (drop 9 rows) ins (s + width_in rows) (at + input_in rows) next (omega (arith, length-sets values s (part at (input_in rows) ins))) (omega arith) j (omega arith) (rw (row_of rows j) e) in
    rw (a, b, row_of rows j) at g
