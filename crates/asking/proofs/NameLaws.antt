-- How a comparison of strings goes on, and what a walk over noted names finds.
use mathlib.Core.Path.{◌≡◌, refl, sym, ap, ◌∙◌}
use mathlib.Core.Bool.{true, false}
use mathlib.Core.List.{List, [], ◌∷◌, ◌++◌}
use Prim.Native.Nat.{ℕ, zero, suc, ◌+◌, ◌-◌, ◌*◌, ◌<◌, ◌≤◌}
use native.Mathlib.Omega.{arith}
use lib.Dec.{eqb}
use lib.ListN.{length, drop, get_or}
use borrow.Author.Tests.{eq-eqb, ne_eqb, eqb-true, eqb-false}
use Rattle.ground.specs.Choice.{pick}
use Rattle.ground.specs.Lists.{joined}
use Rattle.ground.specs.Regions.{zeros, pad}
use Rattle.ground.specs.Text.{same}
use Rattle.ground.proofs.Bools.{bool_cases, never_both}
use Rattle.signs.specs.Pieces.{decoded}
use Rattle.signs.specs.declared.pieces.Meant.{Meant}
use Rattle.signs.proofs.Strings.{next_meant, raw_next}
use Rattle.netlist.specs.Rules.{taken, io_names, names_as}
use Rattle.marking.specs.Marks.{mark_more, mark_from}
use Rattle.saying.specs.Notes.{IoNote, CellNote, io_note, cell_note, ios_said, cells_said, Spells, SpellIos, SpellCells, more}
use Rattle.asking.specs.Namesakes.{same_raw, some_row, namesake, io_namesake, cell_namesake, Sized, IosNoted, CellsNoted, Passes}
use Rattle.asking.proofs.RowLaws.{notes_room, behind_note, some_step, row_miss, row_first}

-- two strings with a first byte each
module _ (a b s t : List ℕ) (x y : ℕ) (p : a ≡ x ∷ s) (q : b ≡ y ∷ t) where
  pub same_on : x ≡ y → same s t ≡ same a b
  unfolding same
  same_on e = rw (p, q) (rw (eq-eqb x y e, same))

  pub same_off : (x ≡ y → ⊥) → false ≡ same a b
  unfolding same
  same_off e = rw (p, q) (rw (ne_eqb x y e, same))

-- .. by bytes that mean themselves
pub record Raw (text : List ℕ) (i j : ℕ) : Type 0 where
  pub first : decoded text i ≡ get_or text i 0 ∷ decoded text (i + 1)
  pub second : decoded text j ≡ get_or text j 0 ∷ decoded text (j + 1)
  pub alike : get_or text i 0 ≡ get_or text j 0

pub raw_behind : (text : List ℕ) (i : ℕ) → 0 < length (decoded text i) → (get_or text i 0 ≡ 92 → ⊥) → decoded text i ≡ get_or text i 0 ∷ decoded text (i + 1)
raw_behind text i h n = next_meant text i h (record { byte = get_or text i 0; end = i + 1 }) (raw_next text i h n)

pub same_raw_lem : (text : List ℕ) (i j : ℕ) → 0 < length (decoded text i) → 0 < length (decoded text j) → same_raw text i j ≡ true → Raw text i j
same_raw_lem text i j h l e = bool_cases (eqb (get_or text i 0) 92)
    (λ z. never_both (rw z at e) refl)
    (λ z. let q : get_or text i 0 ≡ get_or text j 0 = eqb-true _ _ (rw z at e) in
    let n : get_or text i 0 ≡ 92 → ⊥ = eqb-false (get_or text i 0) 92 z in
    record { first = raw_behind text i h n; second = raw_behind text j l (λ o. n (q ∙ o)); alike = q })

pub same_none : (a b : List ℕ) → length a ≡ 0 → length b ≡ 0 → true ≡ same a b
unfolding same
same_none [] [] p q = refl
same_none [] (y ∷ b) p q = absurd (omega arith)
same_none (x ∷ a) b p q = absurd (omega arith)

pub tail_length : (n : ℕ) (a s : List ℕ) (x : ℕ) → a ≡ x ∷ s → n ≡ length a → n - 1 ≡ length s
tail_length n a s x p e = omega (arith, e ∙ ap length p)

-- the mark of a string with a first byte, and of one without bytes
pub mark_first : (a s : List ℕ) (mark mark' x : ℕ) → a ≡ x ∷ s → mark' ≡ mark_more mark x → mark_from mark' s ≡ mark_from mark a
unfolding mark_from
mark_first a s mark mark' x p e = rw (p, e)

pub mark_none : (a : List ℕ) (mark : ℕ) → length a ≡ 0 → mark ≡ mark_from mark a
unfolding mark_from
mark_none [] mark p = refl
mark_none (x ∷ a) mark p = absurd (omega arith)

-- strings of two sizes are never the same
pub same_sizes : (a b : List ℕ) → (length b ≡ length a → ⊥) → same a b ≡ false
unfolding same
same_sizes [] [] h = absurd (h refl)
same_sizes [] (y ∷ b) h = refl
same_sizes (x ∷ a) [] h = refl
same_sizes (x ∷ a) (y ∷ b) h = bool_cases (eqb x y) (λ e. rw (e, same) (same_sizes a b (λ l. h (ap suc l)))) (λ e. rw (e, same))

-- A NOTED NAME
module _ (text : List ℕ) (at : ℕ) (s : List ℕ) (h : Spells text at s) where
  pub sized : Sized text at (length s)
  sized = record { is = λ f. let e : s ≡ decoded text at = h.is ∙ rw (ne_eqb (length s) 0 f) in ap length e }

  pub namesake_is : (from size : ℕ) → size ≡ length (decoded text from) → namesake text from size at (length s) ≡ same (decoded text from) s
  namesake_is from size e = bool_cases (eqb (length s) size)
      (λ p. rw p (bool_cases (eqb size 0)
      (λ z. rw z (let y = eqb-true size 0 z in let x = eqb-true (length s) size p in same_none (decoded text from) s (sym e ∙ y) (x ∙ y)))
      (λ z. rw z (let y = eqb-false size 0 z in let x = eqb-true (length s) size p in
      let d : s ≡ decoded text at = h.is ∙ rw (ne_eqb (length s) 0 (λ l. y (sym x ∙ l))) in ap (same (decoded text from)) (sym d)))))
      (λ p. rw p (sym (same_sizes (decoded text from) s (λ l. eqb-false (length s) size p (l ∙ sym e)))))

taken_step : (name n : List ℕ) (ns : List (List ℕ)) → taken name (n ∷ ns) ≡ pick (same name n) true (taken name ns)
unfolding taken
taken_step name n ns = bool_cases (same name n) (λ e. rw (e, taken)) (λ e. rw (e, taken))

-- the rows of a table are as wide as each other
io_note_wide : (n : IoNote) → length (io_note n) ≡ 3
unfolding io_note
io_note_wide n = refl

cell_note_wide : (n : CellNote) → length (cell_note n) ≡ 9
unfolding cell_note
cell_note_wide n = refl

-- I/O ROWS
module _ (text : List ℕ) (rest : List ℕ) where
  pub io_rows : (ns : List IoNote) → SpellIos text ns → (i : ℕ) → i < length ns → Sized text (get_or (drop (i * 3) (joined io_note ns ++ rest)) 0 0) (get_or (drop (i * 3) (joined io_note ns ++ rest)) 1 0)
  unfolding joined io_note
  io_rows [] s i h = absurd (omega arith)
  io_rows (n ∷ ns) (more a s) zero h = sized text n.name_at n.io.name a
  io_rows (n ∷ ns) (more a s) (suc i) h = rw (behind_note io_note 3 io_note_wide n ns rest i) (io_rows ns s i (omega arith))

  pub io_taken : (from size : ℕ) → size ≡ length (decoded text from) → (ns : List IoNote) → SpellIos text ns → some_row 3 (io_namesake text from size) (length ns) (joined io_note ns ++ rest) ≡ taken (decoded text from) (io_names (ios_said ns))
  unfolding some_row taken joined io_note io_namesake
  io_taken from size e [] s = refl
  io_taken from size e (n ∷ ns) (more a s) =
      some_step 3 (io_namesake text from size) (length ns) (joined io_note (n ∷ ns) ++ rest) (same (decoded text from) n.io.name) (namesake_is text n.name_at n.io.name a from size e)
      ∙ ap (pick (same (decoded text from) n.io.name) true) (io_taken from size e ns s)
      ∙ sym (taken_step (decoded text from) n.io.name (io_names (ios_said ns)))

-- a row of the table that is walked, and what the whole walk finds
pub io_row : {text ios : List ℕ} {n : ℕ} → IosNoted text ios n → (i : ℕ) → i < n → (i * 3 + 3 ≤ length ios) × Sized text (get_or (drop (i * 3) ios) 0 0) (get_or (drop (i * 3) ios) 1 0)
unfolding pad
io_row {text} {ios} {n} h i l = (
  omega (arith, notes_room io_note 3 io_note_wide h.notes 192 ios h.rows, h.count),
  rw h.rows (io_rows text (zeros (192 - length (joined io_note h.notes))) h.notes h.names i (omega (arith, h.count))),
)

pub io_found : (text ios : List ℕ) (n from size : ℕ) → size ≡ length (decoded text from) → (ns : List IoNote) → ios ≡ pad 192 (joined io_note ns) → n ≡ length ns → SpellIos text ns → some_row 3 (io_namesake text from size) n ios ≡ taken (decoded text from) (io_names (ios_said ns))
unfolding pad
io_found text ios n from size e ns r l s = rw (r, l) (io_taken text (zeros (192 - length (joined io_note ns))) from size e ns s)

-- CELL ROWS
module _ (text : List ℕ) (rest : List ℕ) where
  pub cell_rows : (ns : List CellNote) → SpellCells text ns → (i : ℕ) → i < length ns → Sized text (get_or (drop (i * 9) (joined cell_note ns ++ rest)) 2 0) (get_or (drop (i * 9) (joined cell_note ns ++ rest)) 3 0)
  unfolding joined cell_note
  cell_rows [] s i h = absurd (omega arith)
  cell_rows (n ∷ ns) (more a s) zero h = sized text n.name_at n.cell.name a
  cell_rows (n ∷ ns) (more a s) (suc i) h = rw (behind_note cell_note 9 cell_note_wide n ns rest i) (cell_rows ns s i (omega arith))

  -- a cell of the kind, or one of another kind
  pub cell_taken : (kind from size : ℕ) → size ≡ length (decoded text from) → (ns : List CellNote) → SpellCells text ns → some_row 9 (cell_namesake text kind from size) (length ns) (joined cell_note ns ++ rest) ≡ taken (decoded text from) (names_as kind (cells_said ns))
  unfolding some_row taken joined cell_note cell_namesake names_as
  cell_taken kind from size e [] s = refl
  cell_taken kind from size e (n ∷ ns) (more a s) = bool_cases (eqb n.cell.kind kind)
      (λ k. some_step 9 (cell_namesake text kind from size) (length ns) (joined cell_note (n ∷ ns) ++ rest) (same (decoded text from) n.cell.name) (rw k (namesake_is text n.name_at n.cell.name a from size e))
      ∙ ap (pick (same (decoded text from) n.cell.name) true) (cell_taken kind from size e ns s)
      ∙ sym (taken_step (decoded text from) n.cell.name (names_as kind (cells_said ns)))
      ∙ rw (k, names_as))
      (λ k. some_step 9 (cell_namesake text kind from size) (length ns) (joined cell_note (n ∷ ns) ++ rest) false (rw k)
      ∙ cell_taken kind from size e ns s
      ∙ rw (k, names_as))

pub cell_row : {text cells : List ℕ} {n : ℕ} → CellsNoted text cells n → (i : ℕ) → i < n → (i * 9 + 9 ≤ length cells) × Sized text (get_or (drop (i * 9) cells) 2 0) (get_or (drop (i * 9) cells) 3 0)
unfolding pad
cell_row {text} {cells} {n} h i l = (
  omega (arith, notes_room cell_note 9 cell_note_wide h.notes 4608 cells h.rows, h.count),
  rw h.rows (cell_rows text (zeros (4608 - length (joined cell_note h.notes))) h.notes h.names i (omega (arith, h.count))),
)

pub cell_found : (text cells : List ℕ) (n kind from size : ℕ) → size ≡ length (decoded text from) → (ns : List CellNote) → cells ≡ pad 4608 (joined cell_note ns) → n ≡ length ns → SpellCells text ns → some_row 9 (cell_namesake text kind from size) n cells ≡ taken (decoded text from) (names_as kind (cells_said ns))
unfolding pad
cell_found text cells n kind from size e ns r l s = rw (r, l) (cell_taken text (zeros (4608 - length (joined cell_note ns))) kind from size e ns s)

pub cells_room : {text cells : List ℕ} {n : ℕ} → CellsNoted text cells n → n * 9 ≤ length cells
cells_room {text} {cells} {n} h = omega (arith, notes_room cell_note 9 cell_note_wide h.notes 4608 cells h.rows, h.count)

-- ROWS OF OTHER KINDS are passed
pub passes_none : (kind n row : ℕ) (cells : List ℕ) → Passes kind n row row cells
passes_none kind n row cells = record { finds = λ text from size. refl }

pub passes_more : (kind n row i : ℕ) (cells : List ℕ) → i < n → (get_or cells (i * 9) 0 ≡ kind → ⊥) → Passes kind n row i cells → Passes kind n row (i + 1) cells
unfolding cell_namesake
passes_more kind n row i cells h other p = record {
  finds = λ text from size. row_miss 9 (cell_namesake text kind from size) n i cells h (rw (row_first, ne_eqb _ _ other)) ∙ p.finds text from size;
}
