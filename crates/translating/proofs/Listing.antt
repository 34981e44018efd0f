-- Records written part after part: what is left to write gives what the whole gives.
use mathlib.Core.Path.{◌≡◌, refl, sym, ap, ◌∙◌, subst}
use mathlib.Core.List.{List, [], ◌∷◌, ◌++◌}
use Prim.Native.Nat.{ℕ, zero, suc, ◌+◌, ◌-◌, ◌*◌, ◌<◌, ◌≤◌}
use native.Mathlib.Omega.{arith}
use lib.ListN.{length, take, drop, get_or, set, length-append}
use lib.Seq.{sets}
use Rattle.ground.specs.Lists.{joined, up_from}
use Rattle.ground.specs.Regions.{part}
use Rattle.ground.proofs.Rest.{rest_cons, rest_end}
use Rattle.netlist.specs.Netlist.{Run}
use Rattle.loadlist.specs.Records.{rec, input_op, output_op, list_bytes}
use Rattle.loadlist.specs.declared.Record.{Record}
use Rattle.cells.proofs.Filling.{Leaves, start, turn, ended}
use Rattle.recording.specs.Making.{Puts}
use Rattle.recording.proofs.Left.{puts_then, puts_length}
use Rattle.placing.specs.Placing.{output_from}
use Rattle.assigning.proofs.Laws.{row_next}
use Rattle.valuing.specs.Row.{cell_of}
use Rattle.evaluating.specs.InTables.{outputs_in}
use Rattle.translating.specs.Translation.{input_records, output_records}
use Rattle.translating.specs.Sound.{Roomy}
use Rattle.translating.proofs.Counting.{length_outputs}

-- of the records `whole`, to be written over `old` from record k on, `rest` is left to be written over `new` from record n on
pub record Left (old : List ℕ) (k : ℕ) (whole : List Record) (new : List ℕ) (n : ℕ) (rest : List Record) : Type 0 where
  pub goes : sets new (8 * n) (list_bytes rest) ≡ sets old (8 * k) (list_bytes whole)
  pub count : n + length rest ≡ k + length whole
  pub long : length new ≡ length old

pub left_whole : (old : List ℕ) (k : ℕ) (whole : List Record) → Left old k whole old k whole
left_whole old k whole = record { goes = refl; count = refl; long = refl }

pub left_from : {old : List ℕ} {k : ℕ} {whole rest : List Record} → rest ≡ whole → Left old k whole old k rest
left_from {old} {k} {whole} {rest} e = subst (λ (r : List Record). Left old k whole old k r) (sym e) (left_whole old k whole)

module _ {old : List ℕ} {k : ℕ} {whole : List Record} {new : List ℕ} {n : ℕ} {rest : List Record} (l : Left old k whole new n rest) where
  pub left_on : {rs more : List Record} {new' : List ℕ} {n' : ℕ} → rest ≡ rs ++ more → Puts new n rs new' → n' ≡ n + length rs → Left old k whole new' n' more
  left_on {rs} {more} {new'} {n'} d p e =
      let q : Puts new n (rs ++ more) (sets new' (8 * n') (list_bytes more)) = puts_then p e (record { is = refl }) in
      record {
        goes = q.is ∙ ap (λ (r : List Record). sets new (8 * n) (list_bytes r)) (sym d) ∙ l.goes;
        count = omega (arith, l.count, ap length d, length-append rs more);
        long = puts_length p ∙ l.long;
      }

  pub left_none : rest ≡ [] → Puts old k whole new
  unfolding joined
  left_none e = record { is = rw e at l.goes }

  pub left_next : rest ≡ [] → n ≡ k + length whole
  left_next e = omega (arith, l.count, ap length e)

  -- there is room for what comes next
  pub left_room : {rs : List Record} (more : List Record) → rest ≡ rs ++ more → Roomy old k whole → Roomy new n rs
  left_room {rs} more d r = let c = ap length d ∙ length-append rs more in record { slots = omega (arith, l.count, r.slots); bytes = omega (arith, l.count, l.long, r.bytes) }

-- INPUTS
module _ (i count : ℕ) where
  pub inputs_on : i < count → input_records (up_from i (count - i)) ≡ (rec input_op i 0 ∷ []) ++ input_records (up_from (i + 1) (count - (i + 1)))
  unfolding input_records up_from
  inputs_on h = let e : count - i ≡ suc (count - (i + 1)) = omega arith in rw e

  pub inputs_end : count ≤ i → input_records (up_from i (count - i)) ≡ []
  unfolding input_records up_from
  inputs_end h = let e : count - i ≡ 0 = omega arith in rw e

pub inputs_start : (count : ℕ) → input_records (up_from 0 (count - 0)) ≡ input_records (up_from 0 count)
inputs_start count = let e : count - 0 ≡ count = omega arith in rw e

-- NUMBERS from a number on
module _ (first size i : ℕ) where
  pub up_on : i < size → up_from (first + i) (size - i) ≡ (first + i) ∷ up_from (first + (i + 1)) (size - (i + 1))
  unfolding up_from
  up_on h =
      let e : size - i ≡ suc (size - (i + 1)) = omega arith in
      let m : first + i + 1 ≡ first + (i + 1) = omega arith in
      rw (e, up_from, m)

  pub up_end : size ≤ i → up_from (first + i) (size - i) ≡ []
  unfolding up_from
  up_end h = let e : size - i ≡ 0 = omega arith in rw e

pub up_start : (first size : ℕ) → up_from (first + 0) (size - 0) ≡ up_from first size
up_start first size = let e : size - 0 ≡ size = omega arith in let f : first + 0 ≡ first = omega arith in rw (e, f)

-- numbers put into a lent slice one after the other
pub numbers_none : (old : List ℕ) (place first size : ℕ) → Leaves old place (up_from first size) old (place + 0) (up_from (first + 0) (size - 0))
numbers_none old place first size = let e : place + 0 ≡ place = omega arith in rw (e, up_start first size) (start old place (up_from first size))

module _ {old : List ℕ} {place : ℕ} {all new : List ℕ} (first size i : ℕ) (w : Leaves old place all new (place + i) (up_from (first + i) (size - i))) where
  pub numbers_more : (y : ℕ) → i < size → y ≡ first + i → Leaves old place all (set new (place + i) y) (place + (i + 1)) (up_from (first + (i + 1)) (size - (i + 1)))
  numbers_more y h e = let m : place + i + 1 ≡ place + (i + 1) = omega arith in rw m at (turn w (up_on first size i h) e)

  pub numbers_all : size ≤ i → new ≡ sets old place all
  numbers_all h = ended w (up_end first size i h)

take_up : (k n m : ℕ) → m ≤ n → take m (up_from k n) ≡ up_from k m
unfolding up_from
take_up k n zero h = refl
take_up k zero (suc m) h = absurd (omega arith)
take_up k (suc n) (suc m) h = ap (λ (l : List ℕ). k ∷ l) (take_up (k + 1) n m (omega arith))

drop_up : (k n s : ℕ) → s ≤ n → drop s (up_from k n) ≡ up_from (k + s) (n - s)
unfolding up_from
drop_up k n zero h = sym (up_start k n)
drop_up k zero (suc s) h = absurd (omega arith)
drop_up k (suc n) (suc s) h =
    let e : k + 1 + s ≡ k + suc s = omega arith in
    let m : suc n - suc s ≡ n - s = omega arith in
    drop_up (k + 1) n s (omega arith) ∙ rw (e, m)

pub part_up : (k n s m : ℕ) → s + m ≤ n → part s m (up_from k n) ≡ up_from (k + s) m
unfolding part
part_up k n s m h = ap (take m) (drop_up k n s (omega arith)) ∙ take_up (k + s) (n - s) m (omega arith)

-- OUTPUTS
module _ (xs : List ℕ) (i j : ℕ) where
  pub outputs_on : i < length xs → output_records (drop i xs) (j + i) ≡ (rec output_op (get_or xs i 0) (j + i) ∷ []) ++ output_records (drop (i + 1) xs) (j + (i + 1))
  unfolding output_records
  outputs_on h = let m : j + i + 1 ≡ j + (i + 1) = omega arith in rw (rest_cons xs i h, output_records, m)

  pub outputs_end : length xs ≤ i → output_records (drop i xs) (j + i) ≡ []
  unfolding output_records
  outputs_end h = rw (rest_end xs i h)

pub outputs_start : (xs : List ℕ) (j : ℕ) → output_records (drop 0 xs) (j + 0) ≡ output_records xs j
outputs_start xs j = let e : j + 0 ≡ j = omega arith in rw e

pub outputs_begin : (old : List ℕ) (k : ℕ) (xs : List ℕ) (j : ℕ) → Left old k (output_records xs j) old (k + 0) (output_records (drop 0 xs) (j + 0))
outputs_begin old k xs j = let e : k + 0 ≡ k = omega arith in rw e (left_from (outputs_start xs j))

outputs_append : (xs ys : List ℕ) (j : ℕ) → output_records (xs ++ ys) j ≡ output_records xs j ++ output_records ys (j + length xs)
unfolding output_records
outputs_append [] ys j = let e : j + 0 ≡ j = omega arith in rw e
outputs_append (x ∷ xs) ys j =
    let e : j + 1 + length xs ≡ j + suc (length xs) = omega arith in
    ap (λ (l : List Record). rec output_op x j ∷ l) (outputs_append xs ys (j + 1) ∙ ap (λ (m : ℕ). output_records xs (j + 1) ++ output_records ys m) e)

-- THE OUTPUTS AMONG THE ROWS from the i-th on
module _ (cells : List ℕ) (pool : List Run) (held : ℕ → List ℕ) (n i j : ℕ) where
  abbrev mine : List ℕ
  mine = output_from held (cell_of pool (drop (i * 9) cells))

  abbrev rest : List ℕ
  rest = outputs_in (n - (i + 1)) (drop ((i + 1) * 9) cells) pool held

  pub rows_on : i < n → output_records (outputs_in (n - i) (drop (i * 9) cells) pool held) j ≡ output_records mine j ++ output_records rest (j + length mine)
  unfolding outputs_in
  rows_on h = let e : n - i ≡ suc (n - (i + 1)) = omega arith in rw (e, row_next cells i) (outputs_append mine (outputs_in (n - (i + 1)) (drop 9 (drop (i * 9) cells)) pool held) j)

  pub rows_end : n ≤ i → output_records (outputs_in (n - i) (drop (i * 9) cells) pool held) j ≡ []
  unfolding outputs_in output_records
  rows_end h = let e : n - i ≡ 0 = omega arith in rw e

pub rows_start : (cells : List ℕ) (pool : List Run) (held : ℕ → List ℕ) (n : ℕ) → output_records (outputs_in (n - 0) (drop (0 * 9) cells) pool held) 0 ≡ output_records (outputs_in n cells pool held) 0
rows_start cells pool held n = let e : n - 0 ≡ n = omega arith in rw e

pub rows_begin : (old : List ℕ) (k : ℕ) (cells : List ℕ) (pool : List Run) (held : ℕ → List ℕ) (n : ℕ)
    → Left old k (output_records (outputs_in n cells pool held) 0) old (k + 0) (output_records (outputs_in (n - 0) (drop (0 * 9) cells) pool held) 0)
rows_begin old k cells pool held n = let e : k + 0 ≡ k = omega arith in rw e (left_from (rows_start cells pool held n))

pub rows_more : (cells : List ℕ) (pool : List Run) (held : ℕ → List ℕ) (n i j : ℕ) {old : List ℕ} {k : ℕ} {whole : List Record} {new : List ℕ}
    → Left old k whole new (k + j) (output_records (outputs_in (n - i) (drop (i * 9) cells) pool held) j) → i < n → {r : ℕ} {new' : List ℕ} → r ≡ length (output_from held (cell_of pool (drop (i * 9) cells)))
    → Puts new (k + j) (output_records (output_from held (cell_of pool (drop (i * 9) cells))) j) new'
    → Left old k whole new' (k + (j + r)) (output_records (outputs_in (n - (i + 1)) (drop ((i + 1) * 9) cells) pool held) (j + r))
rows_more cells pool held n i j l h {r} e p =
    rw e (left_on l (rows_on cells pool held n i j h) p (omega (arith, length_outputs (output_from held (cell_of pool (drop (i * 9) cells))) j)))
