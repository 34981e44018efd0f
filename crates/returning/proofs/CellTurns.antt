-- The declarations of the cells, one after the other: each passes, and all their pieces resolve.
use Prim.Native.Nat.{ℕ, zero, suc, ◌+◌, ◌≤◌}
use native.Mathlib.Omega.{arith}
use mathlib.Core.Path.{◌≡◌, refl, sym, ap, ◌∙◌, subst}
use mathlib.Core.Bool.{true}
use mathlib.Core.List.{List, [], ◌∷◌, ◌++◌, map, append_assoc, append-nil}
use mathlib.Core.Option.{none}
use lib.Dec.{eqb}
use lib.ListN.{length, get_or, length-append}
use Rattle.ground.specs.Choice.{pick}
use Rattle.ground.specs.Lists.{total}
use Rattle.ground.proofs.Bools.{bool_cases, fact}
use Rattle.ground.proofs.Counts.{length_mapped}
use Rattle.netlist.specs.Netlist.{Meta, Cell, Netlist, operand_width}
use Rattle.netlist.specs.Rules.{valid, widths_of, cell_sound}
use Rattle.netlist.proofs.Laying.{valid_roomy}
use Rattle.numbering.specs.Numbers.{numbers_from}
use Rattle.saying.specs.Pieces.{PieceAt, first_unresolved}
use Rattle.saying.specs.Rules.{Sofar, cell, said_by}
use Rattle.celllines.specs.CellLines.{cell_lines}
use Rattle.fronts.specs.Fronts.{cells_so, number_past, number_cell}
use Rattle.fronts.proofs.Rows.{rowed, numbers_long, number_row, number_small}
use Rattle.fronts.proofs.Cutting.{cut_back}
use Rattle.fronts.proofs.Room.{total_append}
use Rattle.fronts.proofs.Sound.{cell_sound_at}
use Rattle.fronts.proofs.Passes.{cell_added, cell_passes}
use Rattle.tokensback.proofs.Standing.{Stands}
use Rattle.cellsback.proofs.Runs.{Numbered}
use Rattle.cellsback.proofs.Operands.{both_found}
use Rattle.cellsback.proofs.Lines.{cut_cell, CellSaid, cell_line_back}
use Rattle.returning.proofs.Turns.{Comes, comes_none, one_comes}

-- a width is no more than all of them
width_most : (cs : List Cell) (row : ℕ) → get_or (widths_of cs) row 0 ≤ total (λ c. c.width) cs
unfolding total
width_most [] row = omega arith
width_most (c ∷ cs) zero = omega arith
width_most (c ∷ cs) (suc row) = omega (arith, width_most cs row)

-- the number behind one more cell
pub past_more : (cs : List Cell) (c : Cell) → number_past (cs ++ (c ∷ [])) ≡ number_past cs + pick (eqb c.width 0) 1 c.width
unfolding total
past_more cs c = total_append (λ (x : Cell). pick (eqb x.width 0) 1 x.width) cs (c ∷ []) ∙ omega arith

-- a number is at most the widths before it and one for each cell
past_most : (cs : List Cell) → number_past cs ≤ total (λ c. c.width) cs + length cs
unfolding total
past_most [] = omega arith
past_most (c ∷ cs) = bool_cases (eqb c.width 0) (λ e. rw e (omega (arith, past_most cs))) (λ e. rw e (omega (arith, past_most cs)))

module _ (N : Netlist) (v : valid N ≡ true) where
  abbrev pub numbers : List ℕ
  numbers = numbers_from 0 N.cells

  abbrev pub widths : List ℕ
  widths = widths_of N.cells

  pub numbers_fit : Numbered numbers widths
  unfolding valid
  numbers_fit =
      let long : length numbers ≡ length N.cells = numbers_long 0 N.cells in
      record {
        long = length_mapped (λ c. c.width) N.cells ∙ sym long;
        small = λ row. (number_small N (fact _ v 0) row, omega (arith, width_most N.cells row, (valid_roomy N v).bits));
        apart = λ row l. number_row N.cells row (omega arith);
      }

  -- a cell whose operands are cut again is the cell by its numbers
  cut_cell_lem : (metas : ℕ) (c : Cell) → cell_sound widths metas c ≡ true → cut_cell numbers c ≡ number_cell numbers c
  cut_cell_lem metas c p = rw (cut_back N.cells c.a (fact _ p 8), cut_back N.cells c.b (fact _ p 9), cut_back N.cells c.c (fact _ p 10))

  pub past_small : (cs cs' : List Cell) → N.cells ≡ cs ++ cs' → number_past cs ≤ 65535
  past_small cs cs' e =
      let r = valid_roomy N v in
      let bits : total (λ (c : Cell). c.width) (cs ++ cs') ≤ 4096 = rw (← e) r.bits in
      let many : length (cs ++ cs') ≤ 512 = rw (← e) r.cells in
      omega (arith, past_most cs, total_append (λ (c : Cell). c.width) cs cs', length-append cs cs', bits, many)

  module _ (text : List ℕ) where
    -- all cells are said, and their pieces resolve
    pub record AllCome (f k : ℕ) (so : Sofar) (g : ℕ) (s : List ℕ) : Type 0 where
      pub pieces : List PieceAt
      pub found : first_unresolved numbers widths pieces ≡ none
      pub comes : Comes text f k so g (cells_so N N.cells pieces) s

    pub cells_come : (cs' cs : List Cell) (ps : List PieceAt) (k g : ℕ) {s : List ℕ} → N.cells ≡ cs ++ cs' → first_unresolved numbers widths ps ≡ none
        → Stands text k (cell_lines numbers widths (numbers_from (number_past cs) cs') cs' s) → AllCome (length cs' + g) k (cells_so N cs ps) g s
    unfolding cell_lines numbers_from
    cells_come [] cs ps k g {s} e found h =
        let z : cs ≡ N.cells = sym (append-nil cs) ∙ sym e in
        record { pieces = ps; found = found; comes = subst (λ (x : List Cell). Comes text (0 + g) k (cells_so N cs ps) g (cells_so N x ps) s) z (comes_none k g (cells_so N cs ps) h) }
    cells_come (c ∷ cs') cs ps k g {s} e found h =
        let kinds = map (λ (m : Meta). m.kind) N.metas in
        let metas : length kinds ≡ length N.metas = length_mapped (λ (m : Meta). m.kind) N.metas in
        let sound = cell_sound_at N v cs c cs' e in
        let d = cell_line_back numbers widths kinds (number_past cs) c numbers_fit (past_small cs (c ∷ cs') e) (omega (arith, metas, (valid_roomy N v).metas)) sound.1 (rw metas sound.0) h in
        let said : CellSaid text numbers widths c d.decl (cells_so N cs ps) = d.said (cells_so N cs ps) (rowed (cells_so N cs ps) refl) in
        let is : said_by text (cells_so N cs ps) d.decl ≡ cell (number_cell numbers c) (operand_width c.a) (operand_width c.b) (operand_width c.c) said.pieces
        = said.said ∙ ap (λ (x : Cell). cell x (operand_width c.a) (operand_width c.b) (operand_width c.c) said.pieces) (cut_cell_lem (length N.metas) c sound.0) in
        let e' : N.cells ≡ (cs ++ (c ∷ [])) ++ cs' = e ∙ sym (append_assoc cs (c ∷ []) cs') in
        let n : number_past (cs ++ (c ∷ [])) ≡ number_past cs + pick (eqb c.width 0) 1 c.width = past_more cs c in
        let r = cells_come cs' (cs ++ (c ∷ [])) (ps ++ said.pieces) d.end g {s = s} e' (both_found numbers widths ps said.pieces found said.found) (rw n d.after) in
        record {
          pieces = r.pieces;
          found = r.found;
          comes = one_comes d (cells_so N cs ps) (cell (number_cell numbers c) (operand_width c.a) (operand_width c.b) (operand_width c.c) said.pieces) (length cs') g
              is (cell_passes text N v cs c cs' e ps said.pieces _ refl is said.named) (cell_added N cs c ps said.pieces (operand_width c.a) (operand_width c.b) (operand_width c.c)) r.comes;
        }
