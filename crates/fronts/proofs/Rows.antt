-- Rows of numbers: rising numbers tell their rows, those of metadata and those of cells.
use mathlib.Core.Path.{◌≡◌, refl, ap, ◌∙◌}
use mathlib.Core.Bool.{true}
use mathlib.Core.List.{List, [], ◌∷◌, ◌++◌, map}
use Prim.Native.Nat.{ℕ, zero, suc, ◌+◌, ◌-◌, ◌<◌, ◌≤◌}
use native.Mathlib.Omega.{arith}
use native.Mathlib.Numerals.{add-one}
use lib.Dec.{eqb, eqb-suc-zero}
use lib.ListN.{length, get_or}
use borrow.Author.Tests.{eq-eqb, ne_eqb}
use Rattle.ground.specs.Choice.{pick}
use Rattle.ground.specs.Lists.{total, up_from}
use Rattle.ground.proofs.Counts.{length_mapped, length_up}
use Rattle.netlist.specs.Netlist.{Meta, Cell, Netlist}
use Rattle.netlist.specs.Rules.{roomy}
use Rattle.netlist.proofs.Laying.{roomy_is}
use Rattle.numbering.specs.Numbers.{numbers_from}
use Rattle.saying.specs.Values.{row_from, row_of}
use Rattle.saying.specs.Rules.{Sofar}
use Rattle.fronts.specs.Fronts.{number_past, Rowed}

-- RISING NUMBERS, from the first bound up to below the last
data Rising (top : ℕ) : ℕ → List ℕ → Type 0 where
  none : {k : ℕ} → k ≤ top → Rising top k []
  more : {k n : ℕ} {ns : List ℕ} → k ≤ n → Rising top (suc n) ns → Rising top k (n ∷ ns)

rising_top : {top k : ℕ} {ns : List ℕ} → Rising top k ns → k ≤ top
rising_top (none h) = h
rising_top (more h r) = let q = rising_top r in omega arith

rising_least : {top k : ℕ} {ns : List ℕ} → Rising top k ns → (i : ℕ) → i < length ns → k ≤ get_or ns i 0
rising_least (none h) i l = absurd (omega arith)
rising_least (more h r) zero l = h
rising_least (more h r) (suc i) l = let q = rising_least r i (omega arith) in omega arith

-- each stands in its own row, and the last bound in none
rising_row : {top k : ℕ} {ns : List ℕ} → Rising top k ns → (i row : ℕ) → i < length ns → row_from ns (get_or ns i 0) row ≡ row + i
unfolding row_from
rising_row (none h) i row l = absurd (omega arith)
rising_row (more {n = n} h r) zero row l = let e : row ≡ row + 0 = omega arith in rw (eq-eqb n n refl, row_from) e
rising_row (more {n = n} {ns = ns} h r) (suc i) row l =
    let q = rising_least r i (omega arith) in
    let e : row + 1 + i ≡ row + suc i = omega arith in
    rw (ne_eqb n (get_or ns i 0) (λ z. omega arith), row_from) (rising_row r i (row + 1) (omega arith) ∙ e)

rising_new : {top k : ℕ} {ns : List ℕ} → Rising top k ns → (row : ℕ) → row_from ns top row ≡ 0
unfolding row_from
rising_new (none h) row = refl
rising_new {top} (more {n = n} h r) row = let q = rising_top r in rw (ne_eqb n top (λ z. omega arith), row_from) (rising_new r (row + 1))

-- METADATA is numbered by its rows
up_from_lem : (top j n k : ℕ) → j ≤ k → k + n ≡ top → Rising top j (up_from k n)
unfolding up_from
up_from_lem top j zero k h e = let g : j ≤ top = omega arith in none g
up_from_lem top j (suc n) k h e = more h (up_from_lem top (suc k) n (k + 1) (omega arith) (omega arith))

up_rising : (n : ℕ) → Rising n 0 (up_from 0 n)
up_rising n = up_from_lem n 0 n 0 (omega arith) (omega arith)

at_up : (n k i : ℕ) → i < n → get_or (up_from k n) i 0 ≡ k + i
unfolding up_from
at_up zero k i l = absurd (omega arith)
at_up (suc n) k zero l = omega arith
at_up (suc n) k (suc i) l = let e = at_up n (k + 1) i (omega arith) in omega arith

-- a row of metadata has its own number
pub row_up : (n i : ℕ) → i < n → row_of (up_from 0 n) i ≡ i + 1
row_up n i l =
    let e : get_or (up_from 0 n) i 0 ≡ i = omega (arith, at_up n 0 i l) in
    let r = rising_row (up_rising n) i 1 (omega (arith, length_up n 0)) in
    let f : 1 + i ≡ i + 1 = omega arith in
    (rw e at r) ∙ f

-- the next number of metadata is new
pub row_new : (n : ℕ) → row_of (up_from 0 n) n ≡ 0
row_new n = rising_new (up_rising n) 1

more_up : (n k : ℕ) → up_from k n ++ ((k + n) ∷ []) ≡ up_from k (suc n)
unfolding up_from
more_up zero k = let e : k + 0 ≡ k = omega arith in rw e
more_up (suc n) k = let e : k + suc n ≡ k + 1 + n = omega arith in rw e (ap (λ (l : List ℕ). k ∷ l) (more_up n (k + 1)))

-- the numbers of metadata with the next one
pub up_more : (n : ℕ) → up_from 0 n ++ (n ∷ []) ≡ up_from 0 (n + 1)
up_more n = let e : 0 + n ≡ n = omega arith in rw (add-one n) (rw e at (more_up n 0))

-- metadata numbered so is numbered by its rows
pub rowed : (so : Sofar) → so.meta_numbers ≡ up_from 0 (length so.netlist.metas) → Rowed so (map (λ (m : Meta). m.kind) so.netlist.metas)
rowed so e = record {
  same = refl;
  rows = λ r a b.
      let l = length_mapped (λ (m : Meta). m.kind) so.netlist.metas in
      let f : r - 1 + 1 ≡ r = omega arith in
      rw e (row_up (length so.netlist.metas) (r - 1) (omega arith) ∙ f);
}

-- CELLS. A cell takes a number or more
abbrev step : Cell → ℕ
step c = pick (eqb c.width 0) 1 c.width

step_least : (w : ℕ) → 1 ≤ pick (eqb w 0) 1 w
step_least zero = omega arith
step_least (suc w) = rw (eqb-suc-zero w) (omega arith)

step_most : (w : ℕ) → pick (eqb w 0) 1 w ≤ w + 1
step_most zero = omega arith
step_most (suc w) = rw (eqb-suc-zero w) (omega arith)

numbers_up : (top k : ℕ) (cs : List Cell) (n : ℕ) → k ≤ n → n + number_past cs ≡ top → Rising top k (numbers_from n cs)
unfolding numbers_from total
numbers_up top k [] n h e = let g : k ≤ top = omega arith in none g
numbers_up top k (c ∷ cs) n h e =
    let s = step_least c.width in
    more h (numbers_up top (suc n) cs (n + step c) (omega arith) (omega arith))

-- a number for each cell
pub numbers_long : (n : ℕ) (cs : List Cell) → length (numbers_from n cs) ≡ length cs
unfolding numbers_from
numbers_long n [] = refl
numbers_long n (c ∷ cs) = ap suc (numbers_long (n + step c) cs)

numbers_rising : (cs : List Cell) → Rising (number_past cs) 0 (numbers_from 0 cs)
numbers_rising cs = numbers_up (number_past cs) 0 cs 0 (omega arith) (omega arith)

-- a number tells its row
pub number_row : (cs : List Cell) (row : ℕ) → row < length cs → row_of (numbers_from 0 cs) (get_or (numbers_from 0 cs) row 0) ≡ row + 1
number_row cs row l =
    let e : 1 + row ≡ row + 1 = omega arith in
    rising_row (numbers_rising cs) row 1 (omega (arith, numbers_long 0 cs)) ∙ e

-- the next cell's number is new
pub number_new : (cs : List Cell) → row_of (numbers_from 0 cs) (number_past cs) ≡ 0
number_new cs = rising_new (numbers_rising cs) 1

more_numbers : (n : ℕ) (cs : List Cell) (c : Cell) → numbers_from n cs ++ ((n + number_past cs) ∷ []) ≡ numbers_from n (cs ++ (c ∷ []))
unfolding numbers_from total
more_numbers n [] c = let e : n + 0 ≡ n = omega arith in rw e
more_numbers n (d ∷ cs) c =
    let e : n + (step d + number_past cs) ≡ n + step d + number_past cs = omega arith in
    ap (λ (l : List ℕ). n ∷ l) (rw e (more_numbers (n + step d) cs c))

-- the numbers of cells with the next one
pub numbers_more : (cs : List Cell) (c : Cell) → numbers_from 0 cs ++ (number_past cs ∷ []) ≡ numbers_from 0 (cs ++ (c ∷ []))
numbers_more cs c = let e : 0 + number_past cs ≡ number_past cs = omega arith in rw e at (more_numbers 0 cs c)

past_most : (cs : List Cell) → number_past cs ≤ total (λ (c : Cell). c.width) cs + length cs
unfolding total
past_most [] = omega arith
past_most (c ∷ cs) = omega (arith, step_most c.width, past_most cs)

number_most : (n : ℕ) (cs : List Cell) (row : ℕ) → get_or (numbers_from n cs) row 0 ≤ n + number_past cs
unfolding numbers_from total
number_most n [] row = omega arith
number_most n (c ∷ cs) zero = omega arith
number_most n (c ∷ cs) (suc row) = omega (arith, number_most (n + step c) cs row)

-- a number of a netlist with room is small
pub number_small : (N : Netlist) → roomy N ≡ true → (row : ℕ) → get_or (numbers_from 0 N.cells) row 0 ≤ 65535
number_small N h row =
    let r = roomy_is N h in
    omega (arith, number_most 0 N.cells row, past_most N.cells, r.cells, r.bits)
