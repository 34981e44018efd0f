-- The last step of a reading: what is given, and what is to stand in the slices afterwards.
use Rattle.std.specs.Prelude.{◌≡◌, true, List, map, ℕ, ◌+◌, ◌≤◌, length, get_or}
use Rattle.ground.specs.Lists.{every}
use Rattle.ground.specs.Regions.{pad, part, zeros}
use Rattle.netlist.specs.Netlist.{strings_of, members_of, attr_bits_of, runs_of, run_bits_of}
use Rattle.netlist.specs.Tables.{meta_rows, io_rows, cell_rows, run_rows, io_start, cell_start}
use Rattle.saying.specs.Values.{row_run}
use Rattle.saying.specs.Rules.{Sofar}
use Rattle.noting.specs.Noted.{metas_in, members_in, ios_in, cells_in, runs_in, attr_trits_in, run_trits_in, Noted}
use Rattle.noting.specs.declared.Tally.{Tally}
use Rattle.resolving.specs.Resolving.{is_declared}

-- WHAT IS TO STAND in the slices at the end
pub record Settled (so : Sofar) (rows pool bits : List ℕ) : Type 0 where
  pub long_rows : length rows ≡ 26307
  pub long_bits : length bits ≡ 393728
  pub meta_count : get_or rows 0 0 ≡ length so.netlist.metas
  pub io_count : get_or rows 1 0 ≡ length so.netlist.ios
  pub cell_count : get_or rows 2 0 ≡ length so.netlist.cells
  pub metas : metas_in rows ≡ pad 8192 (meta_rows 0 0 0 so.netlist.metas)
  pub members : members_in rows ≡ pad 1024 (members_of so.netlist.metas)
  pub ios : ios_in rows ≡ pad 192 (io_rows (io_start so.netlist) so.netlist.ios)
  pub cells : cells_in rows ≡ pad 4608 (cell_rows (cell_start so.netlist) 0 so.netlist.cells)
  pub runs : runs_in rows ≡ pad 12288 (run_rows 0 (map (row_run so.cell_numbers) (runs_of so.netlist.cells)))
  pub strings : pool ≡ pad 16384 (strings_of so.netlist)
  pub attr_trits : attr_trits_in bits ≡ pad 131072 (attr_bits_of so.netlist.metas)
  pub run_trits : run_trits_in bits ≡ pad 262656 (run_bits_of (runs_of so.netlist.cells))

-- the n words from a on are others, and all else is kept
pub record Kept (a n : ℕ) (old new : List ℕ) : Type 0 where
  pub long : length new ≡ length old
  pub before : (s k : ℕ) → s + k ≤ a → part s k new ≡ part s k old
  pub after : (s k : ℕ) → a + n ≤ s → part s k new ≡ part s k old

-- all is noted, and the cells of all runs are declared
pub record Ready (text : List ℕ) (so : Sofar) (n : Tally) (rows bits work : List ℕ) : Type 0 where
  pub noted : Noted text so n rows bits work
  pub declared : every (is_declared so.cell_numbers) (runs_of so.netlist.cells) ≡ true

pub record Finishing (text : List ℕ) (n : Tally) (rows work : List ℕ) : Type 0 where
  pub so : Sofar
  pub bits : List ℕ
  pub ready : Ready text so n rows bits work

abbrev pub Finishes : List ℕ → Tally → List ℕ → List ℕ → List ℕ → List ℕ → List ℕ → Type 0
Finishes text n rows strings work rows' strings' =
    (so : Sofar) (bits : List ℕ) → Ready text so n rows bits work → strings ≡ zeros 16384 → Settled so rows' strings' bits
