-- Operands over what is lent: the runs that a table of runs shows, and the values of cells that lie in one slice.
use Rattle.std.specs.Prelude.{ℕ, zero, suc, ◌+◌, List, [], ◌∷◌, map, reverse, drop, get_or}
use Rattle.netlist.specs.Netlist.{Run}
use Rattle.netlist.specs.Runs.{run_bits}
use Rattle.netlist.specs.Tables.{Tables}
use Rattle.netlist.specs.View.{runs_in}
use Rattle.cells.specs.Operands.{bit_from}

-- tables of which the trits of runs alone count: all that a run needs to be read from its row
abbrev pub holding : List ℕ → Tables
holding trits = record { meta_count = 0; io_count = 0; cell_count = 0; metas = []; members = []; ios = []; cells = []; runs = []; strings = []; attr_bits = []; run_bits = trits }

-- the runs in a table of runs
unfoldable pub held_runs : List ℕ → List ℕ → List Run
held_runs rows trits = runs_in (holding trits) 4096 rows

-- the bits of a row: those from the row's start on
unfoldable pub held_bits : List ℕ → List ℕ → ℕ → List ℕ
held_bits starts values row = drop (get_or starts row 0) values

-- the bits of one run, bit 0 first
unfoldable pub run_from : (ℕ → List ℕ) → Run → List ℕ
run_from rows r = reverse (map (bit_from rows) (run_bits r))

-- so many values from a place on, 0 past the end
unfoldable pub rising : List ℕ → ℕ → ℕ → List ℕ
rising values k zero = []
rising values k (suc w) = get_or values k 0 ∷ rising values (k + 1) w
