-- One more is said: a front with the next declaration is the next front, and rules 9 to 13 let that declaration pass.
use mathlib.Core.Path.{◌≡◌, refl, sym, ap, ◌∙◌}
use mathlib.Core.Bool.{Bool, true, false, not, ◌&&◌, ◌||◌}
use mathlib.Core.Logic.{⊎_elim}
use mathlib.Core.List.{List, [], ◌∷◌, ◌++◌, map, append_assoc, append-nil}
use mathlib.Core.Option.{none}
use Prim.Native.Nat.{ℕ, ◌+◌}
use lib.ListN.{length, length-append}
use Rattle.ground.proofs.Bools.{bool_cases, never_both, fact}
use Rattle.kinds.specs.Kinds.{kind_at, input_kind, output_kind}
use Rattle.form.specs.declared.Declared.{Declared}
use Rattle.netlist.specs.Netlist.{Meta, Io, Cell, Netlist, operand_width}
use Rattle.netlist.specs.Rules.{taken, distinct, io_names, names_as, is_empty, roomy, valid}
use Rattle.numbering.specs.Numbers.{numbers_from}
use Rattle.saying.specs.Pieces.{PieceAt}
use Rattle.saying.specs.Rules.{Sofar, Said, metadata, pad, cell, said_by, added, declares, twice, asked_of, first_misnamed, incomplete, misfit, ruled_out}
use Rattle.fronts.specs.Fronts.{number_cell, number_past, metas_so, ios_so, cells_so}
use Rattle.fronts.proofs.Rows.{row_new, up_more, number_new, numbers_more}
use Rattle.fronts.proofs.Names.{taken_before, names_numbered, name_new, named_kind}
use Rattle.fronts.proofs.Room.{front_roomy}
use Rattle.fronts.proofs.Sound.{meta_sound_at, io_sound_at, cell_sound_at}

map_append : {A B : Type 0} (f : A → B) (xs ys : List A) → map f (xs ++ ys) ≡ map f xs ++ map f ys
map_append f [] ys = refl
map_append f (x ∷ xs) ys = ap (λ (l : List _). f x ∷ l) (map_append f xs ys)

-- ONE MORE IS SAID: a row of metadata
pub meta_added : (ms : List Meta) (m : Meta) → added (metas_so ms) (length ms) (metadata m) ≡ metas_so (ms ++ (m ∷ []))
unfolding added
meta_added ms m = let e : length (ms ++ (m ∷ [])) ≡ length ms + 1 = length-append ms (m ∷ []) in rw (e, ← up_more (length ms))

-- an I/O row
pub io_added : (ms : List Meta) (is : List Io) (n : ℕ) (i : Io) → added (ios_so ms is) n (pad i) ≡ ios_so ms (is ++ (i ∷ []))
unfolding added
io_added ms is n i = refl

-- a cell
pub cell_added : (N : Netlist) (cs : List Cell) (c : Cell) (ps qs : List PieceAt) (a b d : ℕ)
    → added (cells_so N cs ps) (number_past cs) (cell (number_cell (numbers_from 0 N.cells) c) a b d qs) ≡ cells_so N (cs ++ (c ∷ [])) (ps ++ qs)
unfolding added
cell_added N cs c ps qs a b d = rw (map_append (number_cell (numbers_from 0 N.cells)) cs (c ∷ []), ← numbers_more cs c)

-- RULES 9 TO 13
not_true : (b : Bool) → b ≡ true → not b ≡ false
not_true b e = rw e

not_false : (b : Bool) → not b ≡ true → b ≡ false
not_false true e = never_both e refl
not_false false e = refl

-- a declaration that passes each rule passes all
passes_all : (text : List ℕ) (so : Sofar) (d : Declared) (s : Said) → said_by text so d.decl ≡ s → first_misnamed so (asked_of text d.decl) ≡ none
    → twice so d.index s ≡ false → incomplete s ≡ false → misfit s ≡ false → roomy (added so d.index s).netlist ≡ true → ruled_out text so d ≡ none
unfolding ruled_out
passes_all text so d s said named once whole fits room = rw (said, once, named, whole, fits, room)

-- the next row of metadata
pub meta_passes : (text : List ℕ) (N : Netlist) → valid N ≡ true → (ms : List Meta) (m : Meta) (ms' : List Meta) → N.metas ≡ ms ++ (m ∷ ms')
    → (d : Declared) → d.index ≡ length ms → said_by text (metas_so ms) d.decl ≡ metadata m → first_misnamed (metas_so ms) (asked_of text d.decl) ≡ none
    → ruled_out text (metas_so ms) d ≡ none
unfolding valid added
meta_passes text N v ms m ms' e d k said named =
    let h = meta_sound_at N v ms m ms' e in
    let f : N.metas ≡ (ms ++ (m ∷ [])) ++ ms' = e ∙ sym (append_assoc ms (m ∷ []) ms') in
    passes_all text (metas_so ms) d (metadata m) said named
    (rw (k, row_new (length ms)))
    (not_true _ (fact _ h 3))
    (not_true _ (fact _ h 4))
    (front_roomy N (fact _ v 0) [] (ms ++ (m ∷ [])) ms' [] N.ios [] N.cells f refl refl)

-- the next I/O row
pub io_passes : (text : List ℕ) (N : Netlist) → valid N ≡ true → (is : List Io) (i : Io) (is' : List Io) → N.ios ≡ is ++ (i ∷ is')
    → (d : Declared) → said_by text (ios_so N.metas is) d.decl ≡ pad i → first_misnamed (ios_so N.metas is) (asked_of text d.decl) ≡ none
    → ruled_out text (ios_so N.metas is) d ≡ none
unfolding valid added
io_passes text N v is i is' e d said named =
    let h = io_sound_at N v is i is' e in
    let f : N.ios ≡ (is ++ (i ∷ [])) ++ is' = e ∙ sym (append_assoc is (i ∷ []) is') in
    let names : distinct (io_names is ++ (i.name ∷ io_names is')) ≡ true = rw (e, map_append (λ (i : Io). i.name) is (i ∷ is')) at (fact _ v 3) in
    passes_all text (ios_so N.metas is) d (pad i) said named
    (taken_before (io_names is) i.name (io_names is') names)
    (not_false _ (fact _ h 0))
    (not_true _ (fact _ h 2))
    (front_roomy N (fact _ v 0) [] N.metas [] (is ++ (i ∷ [])) is' [] N.cells (sym (append-nil N.metas)) f refl)

-- OF A CELL
module _ (N : Netlist) (v : valid N ≡ true) (cs : List Cell) (c : Cell) (cs' : List Cell) (e : N.cells ≡ cs ++ (c ∷ cs')) where
  -- its name is new where its kind has names
  name_once : (kind_at c.kind).named ≡ true → taken c.name (names_as c.kind cs) ≡ false
  unfolding valid
  name_once n = ⊎_elim
      (λ k. name_new input_kind N.cells cs c cs' e (fact _ v 5) k)
      (λ k. name_new output_kind N.cells cs c cs' e (fact _ v 6) k)
      (named_kind c.kind n)

  -- and so is its number
  cell_once : declares (numbers_from 0 cs) (number_past cs) || ((kind_at c.kind).named && taken c.name (names_as c.kind (map (number_cell (numbers_from 0 N.cells)) cs))) ≡ false
  cell_once = rw (number_new cs, names_numbered c.kind (numbers_from 0 N.cells) cs) (bool_cases (kind_at c.kind).named
      (λ n. rw n (name_once n))
      (λ n. rw n))

  -- a kind that has names has no empty one
  cell_whole : (kind_at c.kind).named && is_empty c.name ≡ false
  cell_whole =
      let h = (cell_sound_at N v cs c cs' e).0 in
      bool_cases (kind_at c.kind).named
      (λ n. rw n (not_false (is_empty c.name) (rw n at (fact _ h 1))))
      (λ n. rw n)

-- the next cell
pub cell_passes : (text : List ℕ) (N : Netlist) → valid N ≡ true → (cs : List Cell) (c : Cell) (cs' : List Cell) → N.cells ≡ cs ++ (c ∷ cs')
    → (ps qs : List PieceAt) (d : Declared) → d.index ≡ number_past cs
    → said_by text (cells_so N cs ps) d.decl ≡ cell (number_cell (numbers_from 0 N.cells) c) (operand_width c.a) (operand_width c.b) (operand_width c.c) qs
    → first_misnamed (cells_so N cs ps) (asked_of text d.decl) ≡ none
    → ruled_out text (cells_so N cs ps) d ≡ none
unfolding valid added
cell_passes text N v cs c cs' e ps qs d k said named =
    let h = (cell_sound_at N v cs c cs' e).0 in
    let ns = numbers_from 0 N.cells in
    let f : N.cells ≡ (cs ++ (c ∷ [])) ++ cs' = e ∙ sym (append_assoc cs (c ∷ []) cs') in
    passes_all text (cells_so N cs ps) d (cell (number_cell ns c) (operand_width c.a) (operand_width c.b) (operand_width c.c) qs) said named
    (rw k (cell_once N v cs c cs' e))
    (cell_whole N v cs c cs' e)
    (not_true _ (fact _ h 7))
    (rw (map_append (number_cell ns) cs (c ∷ [])) at (front_roomy N (fact _ v 0) ns N.metas [] N.ios [] (cs ++ (c ∷ [])) cs' (sym (append-nil N.metas)) (sym (append-nil N.ios)) f))
