-- The operands of the canonical text. Each printer takes what follows, as the tokens do.
use Rattle.std.specs.Prelude.{ℕ, Bool, ◌&&◌, List, [], ◌∷◌, eqb, get_or, length}
use Rattle.ground.specs.Choice.{pick}
use Rattle.netlist.specs.Netlist.{Run, const, piece}
use Rattle.netlist.specs.Tables.{Tables}
use Rattle.netlist.specs.View.{runs_in}
use Rattle.writing.specs.Words.{number, trits}

-- "`+o` is printed unless the run is a whole cell, `:w` unless it is 1 wide". The numbers and widths of all cells are given.
unfoldable pub offset : Bool → ℕ → List ℕ → List ℕ
offset whole o k = pick whole k (43 ∷ number o k)

unfoldable pub width : ℕ → List ℕ → List ℕ
width w k = pick (eqb w 1) k (58 ∷ number w k)

abbrev pub run : List ℕ → List ℕ → Run → List ℕ → List ℕ
run numbers widths (const ts) k = trits ts k
run numbers widths (piece row o w) k =
    37 ∷ number (get_or numbers row 0) (offset (eqb o 0 && eqb w (get_or widths row 0)) o (width w k))

-- "single spaces between tokens": a run, and each further one behind a space
unfoldable pub runs : List ℕ → List ℕ → List Run → List ℕ → List ℕ
runs numbers widths [] k = k
runs numbers widths (r ∷ []) k = run numbers widths r k
runs numbers widths (r ∷ q ∷ rs) k = run numbers widths r (32 ∷ runs numbers widths (q ∷ rs) k)

-- "One run stands bare, more in `[ ]`"
abbrev pub operand : List ℕ → List ℕ → List Run → List ℕ → List ℕ
operand numbers widths rs k = pick (eqb (length rs) 1) (runs numbers widths rs k) (91 ∷ runs numbers widths rs (93 ∷ k))

-- further runs, each behind a space
unfoldable pub more_runs : List ℕ → List ℕ → List Run → List ℕ → List ℕ
more_runs numbers widths [] k = k
more_runs numbers widths (r ∷ rs) k = 32 ∷ run numbers widths r (more_runs numbers widths rs k)

-- tables of which the trits of runs alone count: all that a run needs to be read from its row
abbrev pub holding : List ℕ → Tables
holding trits = record { meta_count = 0; io_count = 0; cell_count = 0; metas = []; members = []; ios = []; cells = []; runs = []; strings = []; attr_bits = []; run_bits = trits }

-- the runs in a table of runs
unfoldable pub held_runs : List ℕ → List ℕ → List Run
held_runs rows trits = runs_in (holding trits) 4096 rows
