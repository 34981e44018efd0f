-- The widths and numbers of cells, from their rows.
use Prim.Native.Nat.{ℕ, zero, suc, ◌+◌, ◌-◌, ◌*◌, ◌<◌, ◌≤◌}
use mathlib.Core.Path.{◌≡◌, refl, sym, ap, ap₂, ◌∙◌}
use mathlib.Core.Bool.{true}
use mathlib.Core.List.{List, [], ◌∷◌}
use native.Mathlib.Omega.{arith}
use native.Mathlib.Numerals.{add-one}
use lib.Dec.{leb, eqb, eqb-suc-zero}
use lib.ListN.{length, drop, get_or, set, length-set}
use lib.Seq.{sets, drop-drop, get_or-drop}
use borrow.Author.Tests.{leb-true}
use Rattle.ground.specs.Choice.{pick}
use Rattle.ground.specs.Lists.{every}
use Rattle.ground.proofs.Bools.{every_at}
use Rattle.ground.proofs.Lent.{over_all, sets_front}
use Rattle.ground.proofs.Rest.{rest_cons, rest_end}
use Rattle.netlist.specs.Netlist.{Run, Cell}
use Rattle.netlist.specs.Rules.{widths_of}
use Rattle.netlist.specs.Tables.{Tables}
use Rattle.netlist.specs.View.{cells_in}
use Rattle.numbering.specs.Numbers.{numbers_from, numbers_by, row_widths, narrow}

-- the widths of the cells that a table shows stand in its rows
pub widths_of_lem : (T : Tables) (pool : List Run) (n : ℕ) (rows : List ℕ) → widths_of (cells_in T pool n rows) ≡ row_widths n rows
unfolding cells_in row_widths
widths_of_lem T pool zero rows = refl
widths_of_lem T pool (suc n) rows = ap (λ (l : List ℕ). get_or rows 1 0 ∷ l) (widths_of_lem T pool n (drop 9 rows))

-- and the numbers follow from the widths
pub numbers_of : (n : ℕ) (cs : List Cell) → numbers_from n cs ≡ numbers_by n (widths_of cs)
unfolding numbers_from numbers_by
numbers_of n [] = refl
numbers_of n (c ∷ cs) = ap (λ (l : List ℕ). n ∷ l) (numbers_of (n + pick (eqb c.width 0) 1 c.width) cs)

pub widths_length : (n : ℕ) (rows : List ℕ) → length (row_widths n rows) ≡ n
unfolding row_widths
widths_length zero rows = refl
widths_length (suc n) rows = ap suc (widths_length n (drop 9 rows))

pub numbers_length : (n : ℕ) (ws : List ℕ) → length (numbers_by n ws) ≡ length ws
unfolding numbers_by
numbers_length n [] = refl
numbers_length n (w ∷ ws) = ap suc (numbers_length (n + pick (eqb w 0) 1 w) ws)

-- words written over the whole of a slice
pub sets_whole : (old xs : List ℕ) → length xs ≡ length old → sets old 0 xs ≡ xs
sets_whole old xs e = sets_front old xs (omega arith) ∙ over_all (length xs) xs old (omega arith)

-- one width more
pub widths_turn : (rows l l₀ : List ℕ) (n i : ℕ) → i < n → sets l i (row_widths (n - i) (drop (i * 9) rows)) ≡ sets l₀ 0 (row_widths n rows)
    → sets (set l i (get_or rows (i * 9 + 1) 0)) (i + 1) (row_widths (n - (i + 1)) (drop ((i + 1) * 9) rows)) ≡ sets l₀ 0 (row_widths n rows)
unfolding row_widths
widths_turn rows l l₀ n i h w =
    let e : n - i ≡ suc (n - (i + 1)) = omega arith in
    let m : (i + 1) * 9 ≡ i * 9 + 9 = omega arith in
    let g : drop ((i + 1) * 9) rows ≡ drop 9 (drop (i * 9) rows) = rw m (sym (drop-drop 9 (i * 9) rows)) in
    let v : get_or rows (i * 9 + 1) 0 ≡ get_or (drop (i * 9) rows) 1 0 = sym (get_or-drop (i * 9) rows 1 0) in
    rw (g, v, add-one i) (rw (add-one i) at (rw (e, row_widths) at w))

pub widths_start : (rows l : List ℕ) (n : ℕ) → sets l 0 (row_widths (n - 0) (drop (0 * 9) rows)) ≡ sets l 0 (row_widths n rows)
widths_start rows l n = let e : n - 0 ≡ n = omega arith in rw e

pub widths_end : (rows l l₀ : List ℕ) (n i : ℕ) → n ≤ i → length l₀ ≡ n → sets l i (row_widths (n - i) (drop (i * 9) rows)) ≡ sets l₀ 0 (row_widths n rows) → l ≡ row_widths n rows
unfolding row_widths
widths_end rows l l₀ n i h z w =
    let e : n - i ≡ 0 = omega arith in
    (rw (e, row_widths) at w) ∙ sets_whole l₀ (row_widths n rows) (widths_length n rows ∙ sym z)

-- one number more
pub numbers_turn : (ws l l₀ : List ℕ) (n i t : ℕ) → i < length ws → t ≡ pick (eqb (get_or ws i 0) 0) 1 (get_or ws i 0) → sets l i (numbers_by n (drop i ws)) ≡ sets l₀ 0 (numbers_by 0 ws)
    → sets (set l i n) (i + 1) (numbers_by (n + t) (drop (i + 1) ws)) ≡ sets l₀ 0 (numbers_by 0 ws)
unfolding numbers_by
numbers_turn ws l l₀ n i t h e w = rw (e, add-one i) (rw (add-one i) at (rw (rest_cons ws i h, numbers_by) at w))

pub numbers_end : (ws l l₀ : List ℕ) (n i : ℕ) → length ws ≤ i → length l₀ ≡ length ws → sets l i (numbers_by n (drop i ws)) ≡ sets l₀ 0 (numbers_by 0 ws) → l ≡ numbers_by 0 ws
unfolding numbers_by
numbers_end ws l l₀ n i h z w = (rw (rest_end ws i h, numbers_by) at w) ∙ sets_whole l₀ (numbers_by 0 ws) (numbers_length 0 ws ∙ sym z)

-- a cell of at most 4,096 bits takes at most so many numbers
pub taken_few : (ws : List ℕ) → every narrow ws ≡ true → (i t : ℕ) → i < length ws → t ≡ pick (eqb (get_or ws i 0) 0) 1 (get_or ws i 0) → t ≤ 4096
taken_few ws h i t l e = rw e (few (get_or ws i 0) (leb-true (get_or ws i 0) 4096 (every_at narrow ws 0 h i l)))
  where
    few : (w : ℕ) → w ≤ 4096 → pick (eqb w 0) 1 w ≤ 4096
    few zero h = omega arith
    few (suc w) h = rw (eqb-suc-zero w) h
