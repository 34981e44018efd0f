-- The value of a cell from the values of its operands, bits from 0 up. Document 01, Cells: the table's column 'value'.
use Rattle.std.specs.Prelude.{ℕ, List, [], ◌∷◌, eqb, get_or}
use Rattle.ground.specs.Choice.{pick}
use Rattle.kinds.specs.Kinds.{not_kind, and_kind, or_kind, xor_kind, mux_kind, adc_kind, eq_kind, ult_kind, slt_kind}
use Rattle.trit.specs.Trit.{and_of, or_of, xor_of}
use Rattle.trit.specs.Wide.{not_bits, pairs, adc_bits, eq_bit, ult_bit, slt_bit}
use Rattle.trit.specs.Mux.{mux_bits}
use Rattle.netlist.specs.Netlist.{Cell}
use Rattle.cells.specs.Operands.{bits_from}

-- `output` and `buf` have the value of their operand; an input has no operand and no value of its own
unfoldable pub kind_value : ℕ → List ℕ → List ℕ → List ℕ → List ℕ
kind_value kind a b c =
    pick (eqb kind not_kind) (not_bits a)
    (pick (eqb kind and_kind) (pairs and_of a b)
    (pick (eqb kind or_kind) (pairs or_of a b)
    (pick (eqb kind xor_kind) (pairs xor_of a b)
    (pick (eqb kind mux_kind) (mux_bits (get_or a 0 2) b c)
    (pick (eqb kind adc_kind) (adc_bits a b (get_or c 0 2))
    (pick (eqb kind eq_kind) (eq_bit a b ∷ [])
    (pick (eqb kind ult_kind) (ult_bit a b ∷ [])
    (pick (eqb kind slt_kind) (slt_bit a b ∷ [])
    a))))))))

-- the value of a cell where the rows that it reads have these bits
unfoldable pub cell_value : (ℕ → List ℕ) → Cell → List ℕ
cell_value values c =
    kind_value c.kind (bits_from values c.a) (bits_from values c.b) (bits_from values c.c)
