-- The bits of an operand, run by run from the last: how the loops that gather them go on and end.
use mathlib.Core.Path.{◌≡◌, refl, sym, ap, ap₂, ◌∙◌}
use mathlib.Core.List.{List, [], ◌∷◌, ◌++◌, map, map-append, reverse, reverse-cons, reverse-append}
use Prim.Native.Nat.{ℕ, zero, suc, ◌+◌, ◌-◌, ◌*◌, ◌<◌, ◌≤◌, min}
use native.Mathlib.Nat.{add-zero}
use native.Mathlib.Numerals.{add-one}
use native.Mathlib.Omega.{arith}
use lib.Dec.{leb}
use lib.ListN.{length, take, drop, get_or, length-take, length-drop, length-reverse}
use lib.Seq.{take-nil, take_all, take-suc, get_or-drop, drop-drop}
use borrow.Author.Tests.{eq-eqb, ne_eqb, leb-true, leb-false}
use Rattle.ground.specs.Lists.{joined}
use Rattle.ground.specs.Regions.{part}
use Rattle.ground.specs.Writes.{Put}
use Rattle.ground.proofs.Bools.{bool_cases}
use Rattle.ground.proofs.Rest.{rest_end}
use Rattle.netlist.specs.Netlist.{Run}
use Rattle.netlist.specs.Runs.{falling, known_bits, run_bits}
use Rattle.netlist.specs.Tables.{Tables}
use Rattle.netlist.specs.View.{run_in, runs_in}
use Rattle.netlist.proofs.Runs.{runs_at, runs_length}
use Rattle.cells.specs.Operands.{bit_from, bits_from}
use Rattle.cells.specs.Held.{holding, held_runs, held_bits, run_from, rising}

-- the same bits, told in another way
pub put_as : {l a xs ys : List ℕ} {k n : ℕ} → Put l k xs n a → xs ≡ ys → Put l k ys n a
put_as p e = record { next = rw (← e) p.next; holds = rw (← e) p.holds }

-- a part cut where the pool ends is the part
pub part_cut : {A : Type 0} (s m n : ℕ) (p : List A) → m ≡ min n (length p - s) → part s m p ≡ part s n p
unfolding part
part_cut {A} s m n p h = cut (drop s p) (h ∙ rw length-drop)
  where
    cut : (l : List A) → m ≡ min n (length l) → take m l ≡ take n l
    cut l e = bool_cases (leb n (length l))
        (λ t. let q : m ≡ n = omega (arith, leb-true n (length l) t) in rw q)
        (λ t. let q : length l ≤ n = omega (arith, leb-false n (length l) t) in let r : length l ≤ m = omega arith in take_all m l r ∙ sym (take_all n l q))

-- THE TABLE OF RUNS

-- A CONSTANT

known_bits_lem : (rows : ℕ → List ℕ) (ts : List ℕ) → map (bit_from rows) (known_bits ts) ≡ ts
unfolding known_bits
known_bits_lem rows [] = refl
known_bits_lem rows (t ∷ ts) = ap (λ (l : List ℕ). t ∷ l) (known_bits_lem rows ts)

module _ (trits : List ℕ) (low k : ℕ) where
  pub const_go : low < k → k ≤ length trits → reverse (part low (k - low) trits) ≡ get_or trits (k - 1) 0 ∷ reverse (part low (k - 1 - low) trits)
  unfolding part
  const_go h l =
      let j = k - 1 - low in
      let e : k - low ≡ suc j = omega arith in
      let s : j < length (drop low trits) = rw length-drop (omega arith) in
      let m : low + j ≡ k - 1 = omega arith in
      rw (e, take-suc (drop low trits) j 0 s, reverse-append (take j (drop low trits)) (get_or (drop low trits) j 0 ∷ []), get_or-drop low trits j 0, m)

  pub const_end : k ≤ low → reverse (part low (k - low) trits) ≡ []
  unfolding part
  const_end h = let e : k - low ≡ 0 = omega arith in rw e

pub const_none : (trits : List ℕ) (start size : ℕ) → length trits ≤ start → [] ≡ reverse (part start size trits)
unfolding part
const_none trits start size h = rw (rest_end trits start h, take-nil size)

pub const_length : (trits : List ℕ) (start size : ℕ) → length (reverse (part start size trits)) ≡ min size (length trits - start)
unfolding part
const_length trits start size = length-reverse (take size (drop start trits)) ∙ simp (length-take, length-drop)

-- A PIECE

pub rise_length : (xs : List ℕ) (k w : ℕ) → length (rising xs k w) ≡ w
unfolding rising
rise_length xs k zero = refl
rise_length xs k (suc w) = ap suc (rise_length xs (k + 1) w)

module _ (xs : List ℕ) (k e i : ℕ) where
  pub rise_go : i < e → rising xs k (e - i) ≡ get_or xs k 0 ∷ rising xs (k + 1) (e - (i + 1))
  unfolding rising
  rise_go h = let q : e - i ≡ suc (e - (i + 1)) = omega arith in rw q

  pub rise_end : e ≤ i → rising xs k (e - i) ≡ []
  unfolding rising
  rise_end h = let q : e - i ≡ 0 = omega arith in rw q

rise_more : (xs : List ℕ) (k w : ℕ) → rising xs k (suc w) ≡ rising xs k w ++ (get_or xs (k + w) 0 ∷ [])
unfolding rising
rise_more xs k zero = rw add-zero
rise_more xs k (suc w) =
    let e : k + 1 + w ≡ k + suc w = omega arith in
    ap (λ (l : List ℕ). get_or xs k 0 ∷ l) (rise_more xs (k + 1) w ∙ rw e)

falling_rises : (starts values : List ℕ) (row o w : ℕ) → reverse (map (bit_from (held_bits starts values)) (falling row o w)) ≡ rising values (get_or starts row 0 + o) w
unfolding held_bits falling rising
falling_rises starts values row o zero = refl
falling_rises starts values row o (suc w) =
    let s = get_or starts row 0 in
    let e : s + (o + w) ≡ s + o + w = omega arith in
    reverse-cons (get_or (drop s values) (o + w) 0) (map (bit_from (held_bits starts values)) (falling row o w))
    ∙ ap₂ (λ (l : List ℕ) (x : ℕ). l ++ (x ∷ [])) (falling_rises starts values row o w) (get_or-drop s values (o + w) 0 ∙ ap (λ (m : ℕ). get_or values m 0) e)
    ∙ sym (rise_more values (s + o) w)

-- A RUN BY ITS ROW
module _ (runs trits : List ℕ) (i cell first size : ℕ) (a : cell ≡ get_or runs i 0) (b : first ≡ get_or runs (i + 1) 0) (c : size ≡ get_or runs (i + 2) 0) where
  words : (get_or (drop i runs) 0 0 ≡ cell) × (get_or (drop i runs) 1 0 ≡ first) × (get_or (drop i runs) 2 0 ≡ size)
  words = (get_or-drop i runs 0 0 ∙ rw add-zero (sym a), get_or-drop i runs 1 0 ∙ sym b, get_or-drop i runs 2 0 ∙ sym c)

  pub const_held : (rows : ℕ → List ℕ) → cell ≡ 0 → reverse (part first size trits) ≡ run_from rows (run_in (holding trits) (drop i runs))
  unfolding run_from
  const_held rows h = rw (words.0, words.1, words.2, eq-eqb cell 0 h) (sym (ap reverse (known_bits_lem rows (part first size trits))))

  pub piece_held : (starts values : List ℕ) (start : ℕ) → start ≡ get_or starts (cell - 1) 0 → (cell ≡ 0 → ⊥)
      → rising values (start + first) size ≡ run_from (held_bits starts values) (run_in (holding trits) (drop i runs))
  unfolding run_from
  piece_held starts values start s h = rw (words.0, words.1, words.2, ne_eqb cell 0 h, s) (sym (falling_rises starts values (cell - 1) first size))

-- THE OPERAND
bits_more : (rows : ℕ → List ℕ) (r : Run) (rs : List Run) → bits_from rows rs ++ run_from rows r ≡ bits_from rows (r ∷ rs)
unfolding bits_from run_from joined
bits_more rows r rs =
    sym (ap reverse (map-append (bit_from rows) (run_bits r) (joined run_bits rs)) ∙ reverse-append (map (bit_from rows) (run_bits r)) (map (bit_from rows) (joined run_bits rs)))

module _ (rows : ℕ → List ℕ) (runs trits : List ℕ) (k e : ℕ) where
  -- one run more, in front of those gathered
  pub gather_go : 0 < k → k ≤ e → k ≤ 4096
      → bits_from rows (part k (e - k) (held_runs runs trits)) ++ run_from rows (run_in (holding trits) (drop ((k - 1) * 3) runs)) ≡ bits_from rows (part (k - 1) (e - (k - 1)) (held_runs runs trits))
  unfolding held_runs part
  gather_go h l m =
      let q : e - (k - 1) ≡ suc (e - k) = omega arith in
      let r : k - 1 + 1 ≡ k = omega arith in
      let s : k - 1 < 4096 = omega arith in
      rw (q, runs_at (holding trits) 4096 (k - 1) runs s, r) (bits_more rows (run_in (holding trits) (drop ((k - 1) * 3) runs)) (take (e - k) (drop k (runs_in (holding trits) 4096 runs))))

pub gather_none : (rows : ℕ → List ℕ) (rs : List Run) (e : ℕ) → [] ≡ bits_from rows (part e (e - e) rs)
unfolding bits_from part joined
gather_none rows rs e = let q : e - e ≡ 0 = omega arith in rw q

-- all runs are gathered: those past the table's end there are not
pub gather_all : (rows : ℕ → List ℕ) (runs trits : List ℕ) (from size k e : ℕ) → k ≡ from → e ≡ from + min size (4096 - from)
    → bits_from rows (part k (e - k) (held_runs runs trits)) ≡ bits_from rows (part from size (held_runs runs trits))
unfolding held_runs
gather_all rows runs trits from size k e h l =
    let m : e - from ≡ min size (4096 - from) = omega arith in
    rw (h, part_cut from (e - from) size (runs_in (holding trits) 4096 runs) (m ∙ rw (runs_length (holding trits) 4096 runs)))
