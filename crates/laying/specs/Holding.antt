-- Runs in the run rows and the run trits of the tables, and what laying an operand or a cell leaves there.
use Rattle.std.specs.Prelude.{Bool, ◌≡◌, List, ◌++◌, ℕ, ◌+◌, ◌≤◌, ◌<◌, length, Option, Some, None}
use Rattle.ground.specs.Regions.{pad}
use Rattle.brackets.specs.Parts.{parts_at}
use Rattle.form.specs.declared.Wiring.{Wiring}
use Rattle.brackets.proofs.Sums.{widths}
use Rattle.netlist.specs.Netlist.{Run, run_bits_of}
use Rattle.netlist.specs.Tables.{run_rows}
use Rattle.laying.specs.declared.Laid.{Laid}
use Rattle.laying.specs.declared.Counts.{Counts}

-- the two regions hold just these runs, and zeros behind them
pub record Holds (rs : List Run) (runs trits : List ℕ) (so : Laid) : Type 0 where
  pub rows : runs ≡ pad 12288 (run_rows 0 rs)
  pub bits : trits ≡ pad 262656 (run_bits_of rs)
  pub count : so.runs ≡ length rs
  pub filled : so.trits ≡ length (run_bits_of rs)
  pub long : length rs ≤ 4096

-- .. some runs
pub record Held (runs trits : List ℕ) (so : Laid) : Type 0 where
  pub rs : List Run
  pub holds : Holds rs runs trits so

-- the new runs stand behind the old ones; or there are more than 4,096
abbrev pub After : List Run → List Run → Option (Laid × Bool) → List ℕ → List ℕ → Type 0
After rs new (Some (so, bare)) runs trits = Holds (rs ++ new) runs trits so
After rs new None runs trits = 4096 < length (rs ++ new)

-- the three operands of a cell are no wider than an operand may be, and there is room for their trits
pub record Room (text : List ℕ) (w : Wiring) (so : Laid) : Type 0 where
  pub a : widths (parts_at text w.a) ≤ 256
  pub b : widths (parts_at text w.b) ≤ 256
  pub c : widths (parts_at text w.c) ≤ 256
  pub all : so.trits + (widths (parts_at text w.a) + widths (parts_at text w.b) + widths (parts_at text w.c)) ≤ 262656

-- the runs of three operands, with the number of each
pub record Counted (rs ra rb rc : List Run) (n : Counts) (runs trits : List ℕ) : Type 0 where
  pub a : n.a ≡ length ra
  pub b : n.b ≡ length rb
  pub c : n.c ≡ length rc
  pub holds : Holds (rs ++ (ra ++ (rb ++ rc))) runs trits n.so

abbrev pub CellAfter : List Run → List Run → List Run → List Run → Option Counts → List ℕ → List ℕ → Type 0
CellAfter rs ra rb rc (Some n) runs trits = Counted rs ra rb rc n runs trits
CellAfter rs ra rb rc None runs trits = 4096 < length (rs ++ (ra ++ (rb ++ rc)))
