-- The lines of cells in the canonical text. Each printer takes what follows, as the tokens do.
use Rattle.std.specs.Prelude.{ℕ, Bool, List, [], ◌∷◌, leb}
use Prim.Native.String.{String}
use Rattle.ground.specs.Choice.{pick}
use Rattle.kinds.specs.Kinds.{kind_at}
use Rattle.netlist.specs.Netlist.{Run, Cell}
use Rattle.netlist.specs.Tables.{Tables}
use Rattle.writing.specs.Words.{text, number, quoted, option}
use Rattle.operands.specs.Operands.{operand}

-- what a kind does not have is not printed
unfoldable pub name_text : Bool → List ℕ → List ℕ → List ℕ
name_text given name k = pick given (32 ∷ quoted name k) k

unfoldable pub operand_text : Bool → List ℕ → List ℕ → List Run → List ℕ → List ℕ
operand_text given numbers widths rs k = pick given (32 ∷ operand numbers widths rs k) k

abbrev pub further_text : List ℕ → List ℕ → ℕ → Cell → List ℕ → List ℕ
further_text numbers widths count c k = operand_text (leb 2 count) numbers widths c.b (operand_text (leb 3 count) numbers widths c.c k)

abbrev pub operands_text : List ℕ → List ℕ → ℕ → Cell → List ℕ → List ℕ
operands_text numbers widths count c k = operand_text (leb 1 count) numbers widths c.a (further_text numbers widths count c k)

-- "declarations always have `:w`"
abbrev pub declared : ℕ → ℕ → String → List ℕ → List ℕ
declared n w word k = 37 ∷ number n (58 ∷ number w (text " = " (text word k)))

unfoldable pub cell_line : List ℕ → List ℕ → ℕ → Cell → List ℕ → List ℕ
cell_line numbers widths n c k =
    let kind = kind_at c.kind in
    declared n c.width kind.word
    (name_text kind.named c.name
    (operands_text numbers widths kind.operands c
    (option (32 ∷ []) c.meta (10 ∷ k))))

unfoldable pub cell_lines : List ℕ → List ℕ → List ℕ → List Cell → List ℕ → List ℕ
cell_lines numbers widths [] cs k = k
cell_lines numbers widths (n ∷ ns) [] k = k
cell_lines numbers widths (n ∷ ns) (c ∷ cs) k = cell_line numbers widths n c (cell_lines numbers widths ns cs k)

-- tables of which the strings alone count: all that a cell needs beside its runs
abbrev pub naming : List ℕ → Tables
naming strings = record { meta_count = 0; io_count = 0; cell_count = 0; metas = []; members = []; ios = []; cells = []; runs = []; strings = strings; attr_bits = []; run_bits = [] }
