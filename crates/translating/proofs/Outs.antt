-- The slots of a cell's bits are as many as the cell is wide.
use mathlib.Core.Path.{◌≡◌}
use mathlib.Core.Bool.{true, false}
use mathlib.Core.List.{List}
use Prim.Native.Nat.{ℕ, ◌<◌}
use lib.Dec.{eqb}
use lib.ListN.{length}
use Rattle.ground.proofs.Bools.{or_false}
use Rattle.kinds.specs.Kinds.{kind_at, input_kind, output_kind}
use Rattle.kinds.proofs.Widths.{Fits}
use Rattle.netlist.specs.Netlist.{Netlist}
use Rattle.netlist.specs.Rules.{widths_of, valid}
use Rattle.netlist.proofs.Lengths.{cell_fits}
use Rattle.cells.specs.Operands.{bits_from}
use Rattle.cells.proofs.Linking.{length_bits}
use Rattle.cells.proofs.Counts.{kind_makes}
use Rattle.placing.specs.Placing.{cell_at, apart}
use Rattle.placing.proofs.Sound.{valid_cell}
use Rattle.translating.specs.InTables.{made_from}

-- A CELL'S SLOTS ARE AS MANY AS IT IS WIDE
pub made_length : (N : Netlist) → valid N ≡ true → (u : ℕ → List ℕ) (row k : ℕ) → row < length N.cells → apart N row ≡ false
    → length (made_from u (cell_at N row) k).outs ≡ (cell_at N row).width
unfolding made_from
made_length N v u row k l h =
    let c = cell_at N row in
    let o = or_false (eqb c.kind input_kind) (eqb c.kind output_kind) h in
    let f = cell_fits (widths_of N.cells) (length N.metas) c (valid_cell N v row l) in
    let g : Fits (kind_at c.kind) c.width (length (bits_from u c.a)) (length (bits_from u c.b)) (length (bits_from u c.c)) = rw (length_bits u c.a, length_bits u c.b, length_bits u c.c) f in
    (kind_makes k c.width (bits_from u c.a) (bits_from u c.b) (bits_from u c.c) c.kind o.0 o.1 g).1
