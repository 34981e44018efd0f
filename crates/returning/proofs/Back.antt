-- THE WAY BACK: the canonical text of a valid netlist, read, says that netlist. So two valid netlists with one text are one netlist.
use Rattle.std.specs.Prelude.{Ok, None}
use Prim.Native.Nat.{ℕ, suc, ◌+◌, ◌-◌}
use native.Mathlib.Omega.{arith}
use mathlib.Core.Path.{◌≡◌, refl, sym, ap, ◌∙◌}
use mathlib.Core.Bool.{true}
use mathlib.Core.List.{List, [], ◌∷◌, ◌++◌, map, append_assoc}
use mathlib.Core.Option.{none}
use lib.Dec.{eqb}
use lib.ListN.{length, drop, length-append}
use Rattle.ground.specs.Choice.{pick}
use Rattle.ground.specs.Lists.{total, up_from}
use Rattle.ground.proofs.Counts.{length_mapped}
use Rattle.signs.specs.Bytes.{class_of, class_from}
use Rattle.signs.specs.Pieces.{inside_end}
use Rattle.lexis.specs.Tokens.{token_from, inside_at, follows}
use Rattle.form.specs.Forms.{form_at, open_form}
use Rattle.netlist.specs.Netlist.{Meta, Io, Cell, Netlist}
use Rattle.netlist.specs.Rules.{valid, widths_of}
use Rattle.netlist.proofs.Laying.{valid_roomy}
use Rattle.numbering.specs.Numbers.{numbers_from}
use Rattle.saying.specs.Pieces.{PieceAt, first_unresolved}
use Rattle.saying.specs.Rules.{nothing}
use Rattle.declaring.specs.Reading.{declarations_from, all, says, netlist_of, read_sound}
use Rattle.declaring.proofs.Declaring.{form_ends}
use Rattle.celllines.specs.CellLines.{cell_lines}
use Rattle.lines.specs.Lines.{meta_lines, io_lines, lines}
use Rattle.fronts.specs.Fronts.{cells_so, number_past, number_cell}
use Rattle.fronts.proofs.Cutting.{cells_back}
use Rattle.fronts.proofs.Sound.{meta_sound_at, io_sound_at, cell_sound_at}
use Rattle.tokensback.proofs.Standing.{Stands}
use Rattle.tokensback.proofs.Tokens.{end_back}
use Rattle.returning.proofs.Plain.{Lined, no_lines}
use Rattle.returning.proofs.Metadata.{meta_lined, io_lined}
use Rattle.returning.proofs.Cells.{cell_lined}
use Rattle.returning.proofs.Turns.{metas_come, ios_come}
use Rattle.returning.proofs.CellTurns.{numbers, widths, numbers_fit, past_small, past_more, cells_come}

-- THE LINES, as many as there are declarations
module _ (N : Netlist) (v : valid N ≡ true) where
  metas_lined : (ms' ms : List Meta) (n : ℕ) {s : List ℕ} → N.metas ≡ ms ++ ms' → Lined n s → Lined (length ms' + n) (meta_lines (length ms) ms' s)
  unfolding meta_lines
  metas_lined [] ms n {s} e f = let z : 0 + n ≡ n = omega arith in rw z f
  metas_lined (m ∷ ms') ms n {s} e f =
      let few = (valid_roomy N v).metas in
      let long : length N.metas ≡ length ms + suc (length ms') = ap length e ∙ length-append ms (m ∷ ms') in
      let kinds = map (λ (m : Meta). m.kind) ms in
      let e' : N.metas ≡ (ms ++ (m ∷ [])) ++ ms' = e ∙ sym (append_assoc ms (m ∷ []) ms') in
      let k : length (ms ++ (m ∷ [])) ≡ length ms + 1 = length-append ms (m ∷ []) in
      let z : suc (length ms') + n ≡ length ms' + n + 1 = omega arith in
      let r : Lined (length ms' + n) (meta_lines (length ms + 1) ms' s) = rw (← k) (metas_lined ms' (ms ++ (m ∷ [])) n e' f) in
      rw z (meta_lined kinds m (omega (arith, length_mapped (λ (m : Meta). m.kind) ms)) (meta_sound_at N v ms m ms' e) (length ms) (omega arith) r)

  ios_lined : (is' is : List Io) (n : ℕ) {s : List ℕ} → N.ios ≡ is ++ is' → Lined n s → Lined (length is' + n) (io_lines is' s)
  unfolding io_lines
  ios_lined [] is n e f = let z : 0 + n ≡ n = omega arith in rw z f
  ios_lined (i ∷ is') is n e f =
      let e' : N.ios ≡ (is ++ (i ∷ [])) ++ is' = e ∙ sym (append_assoc is (i ∷ []) is') in
      let z : suc (length is') + n ≡ length is' + n + 1 = omega arith in
      rw z (io_lined i (io_sound_at N v is i is' e) (ios_lined is' (is ++ (i ∷ [])) n e' f))

  cells_lined : (cs' cs : List Cell) (n : ℕ) {s : List ℕ} → N.cells ≡ cs ++ cs' → Lined n s
      → Lined (length cs' + n) (cell_lines (numbers N v) (widths N v) (numbers_from (number_past cs) cs') cs' s)
  unfolding cell_lines numbers_from
  cells_lined [] cs n e f = let z : 0 + n ≡ n = omega arith in rw z f
  cells_lined (c ∷ cs') cs n {s} e f =
      let fit = numbers_fit N v in
      let sound = cell_sound_at N v cs c cs' e in
      let e' : N.cells ≡ (cs ++ (c ∷ [])) ++ cs' = e ∙ sym (append_assoc cs (c ∷ []) cs') in
      let k = past_more cs c in
      let z : suc (length cs') + n ≡ length cs' + n + 1 = omega arith in
      let r : Lined (length cs' + n) (cell_lines (numbers N v) (widths N v) (numbers_from (number_past cs + pick (eqb c.width 0) 1 c.width) cs') cs' s)
      = rw (← k) (cells_lined cs' (cs ++ (c ∷ [])) n e' f) in
      rw z (cell_lined (numbers N v) (widths N v) (λ row. (fit.small row).0) (λ row. (fit.small row).1) (number_past cs) (length N.metas) c
      (past_small N v cs (c ∷ cs') e) (omega (arith, (valid_roomy N v).metas)) sound.1 sound.0 r)

  -- how many declarations there are
  abbrev pub count : ℕ
  count = length N.metas + (length N.ios + (length N.cells + 0))

  pub lines_lined : Lined count (lines N [])
  unfolding lines total
  lines_lined = metas_lined N.metas [] _ refl (ios_lined N.ios [] _ refl (cells_lined N.cells [] 0 refl no_lines))

-- READ from the first line to the end
widths_numbered : (ns : List ℕ) (cs : List Cell) → widths_of (map (number_cell ns) cs) ≡ widths_of cs
widths_numbered ns [] = refl
widths_numbered ns (c ∷ cs) = ap (λ (ws : List ℕ). c.width ∷ ws) (widths_numbered ns cs)

end_form : (text : List ℕ) (k : ℕ) → drop k text ≡ [] → form_at text k ≡ Ok None
unfolding form_at open_form
end_form text k h = rw (end_back text k h)

-- all that the text says
module _ (N : Netlist) (v : valid N ≡ true) where
  abbrev text : List ℕ
  text = lines N []

  start : Stands text 0 text
  unfolding follows
  start = record { rest = refl; free = refl }

  -- every declaration is read, and all pieces resolve
  record Read : Type 0 where
    pieces : List PieceAt
    found : first_unresolved (numbers N v) (widths N v) pieces ≡ none
    is : declarations_from (suc (length text)) text 0 nothing ≡ all (cells_so N N.cells pieces)

  read_lines : Read
  unfolding lines up_from numbers_from first_unresolved total
  read_lines =
      let g = length text - count N v in
      let turns : suc (length text) ≡ length N.metas + (length N.ios + (length N.cells + suc g)) = omega (arith, (lines_lined N v).long) in
      let m = metas_come N v text N.metas [] 0 (length N.ios + (length N.cells + suc g)) refl start in
      let i = ios_come N v text N.ios [] m.end (length N.cells + suc g) refl m.after in
      let c = cells_come N v text N.cells [] [] i.end (suc g) refl refl i.after in
      record {
        pieces = c.pieces;
        found = c.found;
        is = ap (λ (f : ℕ). declarations_from f text 0 nothing) turns ∙ m.is ∙ i.is ∙ c.comes.is
            ∙ form_ends text c.comes.end (cells_so N N.cells c.pieces) (end_form text c.comes.end c.comes.after.rest) g;
      }

  pub lines_return : read_sound text ≡ says N
  unfolding read_sound netlist_of
  lines_return =
      let r = read_lines in
      let w = widths_numbered (numbers N v) N.cells in
      rw (r.is, w, r.found, cells_back N v)

-- NOTHING DECLARED is one line feed
pub blank_says : read_sound (10 ∷ []) ≡ says (record { metas = []; ios = []; cells = [] })
unfolding read_sound declarations_from form_at inside_at inside_end token_from open_form class_of class_from first_unresolved netlist_of
blank_says = refl
