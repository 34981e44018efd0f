-- Rows of any width: the rows behind the first, and a walk over rows in order. What notes say of their rows.
use mathlib.Core.Path.{◌≡◌, sym, ap, ◌∙◌}
use mathlib.Core.Bool.{Bool, true, false}
use mathlib.Core.List.{List, [], ◌∷◌, ◌++◌, append_assoc}
use Prim.Native.Nat.{ℕ, suc, ◌+◌, ◌-◌, ◌*◌, ◌<◌, ◌≤◌}
use native.Mathlib.Nat.{suc-mul, add_comm, add-zero, zero-mul}
use native.Mathlib.Numerals.{add-one}
use native.Mathlib.Omega.{arith}
use lib.ListN.{length, drop, get_or, length-append}
use lib.Seq.{drop-drop, drop-append_seam, get_or-drop}
use Rattle.ground.specs.Choice.{pick}
use Rattle.ground.specs.Lists.{joined}
use Rattle.ground.specs.Regions.{pad}
use Rattle.asking.specs.Namesakes.{some_row}

-- a row further is w words further
pub next_row : (w i : ℕ) (rows : List ℕ) → drop w (drop (i * w) rows) ≡ drop ((i + 1) * w) rows
next_row w i rows =
    let e : i * w + w ≡ (i + 1) * w = rw (add-one, suc-mul) in
    drop-drop w (i * w) rows ∙ ap (λ (k : ℕ). drop k rows) e

-- behind its first row a table is the table of the others
pub behind_row : (w i : ℕ) (row rows : List ℕ) → length row ≡ w → drop (suc i * w) (row ++ rows) ≡ drop (i * w) rows
behind_row w i row rows h =
    let e : suc i * w ≡ length row + i * w = rw (suc-mul, h) (add_comm (i * w) w) in
    rw e (sym (drop-drop (i * w) (length row) (row ++ rows)) ∙ rw drop-append_seam)

-- A WALK over rows in order: before it all rows are left
pub rows_start : (w : ℕ) (test : List ℕ → Bool) (n : ℕ) (rows : List ℕ) → some_row w test (n - 0) rows ≡ some_row w test n rows
rows_start w test n rows = let e : n - 0 ≡ n = omega arith in ap (λ (k : ℕ). some_row w test k rows) e

-- and at the row i of n
module _ (w : ℕ) (test : List ℕ → Bool) (n i : ℕ) (rows : List ℕ) where
  pub row_hit : i < n → true ≡ test (drop (i * w) rows) → true ≡ some_row w test (n - i) (drop (i * w) rows)
  unfolding some_row
  row_hit h e = let m : n - i ≡ suc (n - (i + 1)) = omega arith in sym (rw (m, sym e, some_row))

  pub row_miss : i < n → false ≡ test (drop (i * w) rows) → some_row w test (n - (i + 1)) (drop ((i + 1) * w) rows) ≡ some_row w test (n - i) (drop (i * w) rows)
  unfolding some_row
  row_miss h e = let m : n - i ≡ suc (n - (i + 1)) = omega arith in rw (m, ← next_row w i rows) (sym (rw (sym e, some_row)))

  pub rows_end : n ≤ i → false ≡ some_row w test (n - i) (drop (i * w) rows)
  unfolding some_row
  rows_end h = let m : n - i ≡ 0 = omega arith in rw m

-- A TABLE of notes, each a row of w words
module _ {A : Type 0} (note : A → List ℕ) (w : ℕ) (wide : (n : A) → length (note n) ≡ w) where
  pub joined_length : (ns : List A) → length (joined note ns) ≡ length ns * w
  unfolding joined
  joined_length [] = sym (zero-mul w)
  joined_length (n ∷ ns) = rw (length-append, wide n, joined_length ns, suc-mul) (add_comm w (length ns * w))

  pub notes_room : (ns : List A) (k : ℕ) (t : List ℕ) → t ≡ pad k (joined note ns) → (length ns) * w ≤ length t
  unfolding pad
  notes_room ns k t e = rw (e, length-append, joined_length ns) (omega arith)

  -- behind the first note
  pub behind_note : (n : A) (ns : List A) (rest : List ℕ) (i : ℕ) → drop (suc i * w) (joined note (n ∷ ns) ++ rest) ≡ drop (i * w) (joined note ns ++ rest)
  unfolding joined
  behind_note n ns rest i = rw append_assoc (behind_row w i (note n) (joined note ns ++ rest) (wide n))

-- one row of a walk, with the outcome of its test
pub some_step : (w : ℕ) (test : List ℕ → Bool) (n : ℕ) (rows : List ℕ) (b : Bool) → test rows ≡ b → some_row w test (suc n) rows ≡ pick b true (some_row w test n (drop w rows))
unfolding some_row
some_step w test n rows true e = rw (e, some_row)
some_step w test n rows false e = rw (e, some_row)

-- a word of a row is a word of the table
pub row_first : (k : ℕ) (rows : List ℕ) → get_or (drop k rows) 0 0 ≡ get_or rows k 0
row_first k rows = rw get_or-drop (rw add-zero)

pub row_word : (k j : ℕ) (rows : List ℕ) → get_or (drop k rows) j 0 ≡ get_or rows (k + j) 0
row_word k j rows = get_or-drop k rows j 0
