-- What the notes give to each step of the last one, and what stands there at the end.
use mathlib.Core.Path.{◌≡◌, refl, sym, ap, ap₂, ◌∙◌}
use mathlib.Core.Bool.{true}
use mathlib.Core.List.{List, [], ◌∷◌, ◌++◌, map, append_assoc}
use Prim.Native.Nat.{ℕ, ◌+◌, ◌-◌, ◌*◌, ◌<◌, ◌≤◌}
use native.Mathlib.Nat.{zero-add}
use native.Mathlib.Omega.{arith}
use lib.ListN.{length, get_or, set, take, drop, length-append, length-set}
use lib.Seq.{sets, length-sets, drop-set-lt, get_or-set_same, get_or-set_other}
use Rattle.ground.specs.Lists.{every, joined}
use Rattle.ground.specs.Regions.{pad, part, zeros}
use Rattle.ground.proofs.Regions.{length_pad, pad_put}
use Rattle.ground.proofs.Writes.{sets_append}
use Rattle.ground.proofs.Counts.{length_mapped}
use Rattle.netlist.specs.Netlist.{Meta, Io, Cell, meta_strings, strings_of, members_of, attr_bits_of, runs_of, run_bits_of}
use Rattle.netlist.specs.Tables.{meta_rows, io_rows, cell_rows, run_rows, io_start, cell_start}
use Rattle.netlist.proofs.Laying.{Roomy, roomy_is}
use Rattle.netlist.proofs.Lengths.{length_meta_rows, length_io_rows, length_cell_rows, length_run_rows}
use Rattle.saying.specs.Values.{row_run}
use Rattle.saying.specs.Rules.{Sofar}
use Rattle.saying.specs.Notes.{MetaNote, metas_said, IoNote, ios_said, CellNote, cells_said, Maps}
use Rattle.settling.specs.Settling.{MetasNoted, MetasSettled, SettlesMetas, io_strings, IosNoted, IosSettled, SettlesIos, cell_strings, CellsNoted, CellsSettled, SettlesCells}
use Rattle.laying.specs.Holding.{Holds}
use Rattle.noting.specs.Noted.{metas_in, members_in, ios_in, cells_in, runs_in, attr_trits_in, run_trits_in, cell_map_in, Noted}
use Rattle.noting.specs.declared.Tally.{Tally}
use Rattle.noting.proofs.Flat.{put, length_put, part_put, part_before, part_after}
use Rattle.resolving.specs.Resolving.{is_declared, Numbered, RowsRuns}
use Rattle.finishing.specs.Finish.{Kept, Ready, Settled}

-- WHAT THE NOTES GIVE
module _ (text : List ℕ) (so : Sofar) (n : Tally) (rows bits work : List ℕ) (d : Noted text so n rows bits work) where
  room : Roomy so.netlist
  room = roomy_is so.netlist d.tally.roomy

  -- the strings, by their tables
  pub all_strings : length (meta_strings so.netlist.metas) + length (io_strings so.netlist.ios) + length (cell_strings so.netlist.cells) ≤ 16384
  all_strings =
      let N = so.netlist in
      omega (arith, room.strings, length-append (meta_strings N.metas) (io_strings N.ios ++ cell_strings N.cells), length-append (io_strings N.ios) (cell_strings N.cells))

  pub metas_noted : MetasNoted text d.metas.notes n.metas (metas_in rows)
  metas_noted =
      let e = d.metas.said in
      record {
        rows = d.metas.rows;
        count = sym (length_mapped (λ (x : MetaNote). x.meta) d.metas.notes) ∙ ap length e ∙ sym d.tally.metas;
        few = omega (arith, d.tally.metas, room.metas);
        spelled = d.metas.spelled;
        strings = rw e (omega (arith, all_strings));
        members = rw e room.members;
        trits = rw e (omega (arith, d.metas.narrow, room.metas));
      }

  pub ios_noted : IosNoted text d.ios.notes n.ios (io_start so.netlist) (ios_in rows)
  ios_noted =
      let e = d.ios.said in
      record {
        rows = d.ios.rows;
        count = sym (length_mapped (λ (x : IoNote). x.io) d.ios.notes) ∙ ap length e ∙ sym d.tally.ios;
        few = omega (arith, d.tally.ios, room.ios);
        spelled = d.ios.spelled;
        strings = rw e (omega (arith, all_strings));
      }

  pub cells_noted : CellsNoted text d.cells.notes n.cells (cell_start so.netlist) (cells_in rows)
  cells_noted =
      let e = d.cells.said in
      record {
        rows = d.cells.rows;
        count = sym (length_mapped (λ (x : CellNote). x.cell) d.cells.notes) ∙ ap length e ∙ sym d.tally.cells;
        few = omega (arith, d.tally.cells, room.cells);
        spelled = d.cells.spelled;
        strings = rw e (omega (arith, all_strings));
        runs = rw e room.runs;
      }

  pub runs_numbered : every (is_declared so.cell_numbers) (runs_of so.netlist.cells) ≡ true → Numbered so.cell_numbers (runs_of so.netlist.cells) (runs_in rows) n.runs
  runs_numbered h = record { rows = d.cells.holds.rows; count = sym d.cells.holds.count; few = omega (arith, d.tally.runs, room.runs); declared = h }

-- A REGION WRITTEN through a part of the slice
module _ (a e n : ℕ) (l new : List ℕ) (is : e - a ≡ n) (h : a + n ≤ length l) (same : length new ≡ n) where
  pub kept_put : Kept a n l (take a l ++ (new ++ drop (e - a) (drop a l)))
  kept_put = rw is (record {
    long = length_put a n l new h same;
    before = part_before a n l new h same;
    after = part_after a n l new h same;
  })

  pub there_put : part a n (take a l ++ (new ++ drop (e - a) (drop a l))) ≡ new
  there_put = rw is (part_put a n l new h same)

pad_none : (n : ℕ) → pad n [] ≡ zeros n
unfolding pad
pad_none n = let e : n - 0 ≡ n = omega arith in ap zeros e

-- THE COUNTS at the front
module _ (l : List ℕ) (a b c : ℕ) where
  past_counts : (s k : ℕ) → 3 ≤ s → part s k (set (set (set l 0 a) 1 b) 2 c) ≡ part s k l
  unfolding part
  past_counts s k h =
      ap (take k) (drop-set-lt s (set (set l 0 a) 1 b) 2 c (omega arith) ∙ drop-set-lt s (set l 0 a) 1 b (omega arith) ∙ drop-set-lt s l 0 a (omega arith))

  counts_third : 3 ≤ length l → get_or (set (set (set l 0 a) 1 b) 2 c) 2 0 ≡ c
  counts_third h = get_or-set_same (set (set l 0 a) 1 b) 2 c 0 (simp length-set (omega arith))

  counts_second : 3 ≤ length l → get_or (set (set (set l 0 a) 1 b) 2 c) 1 0 ≡ b
  counts_second h = get_or-set_other (set (set l 0 a) 1 b) 2 1 c 0 (λ e. absurd (omega arith)) ∙ get_or-set_same (set l 0 a) 1 b 0 (simp length-set (omega arith))

  counts_first : 3 ≤ length l → get_or (set (set (set l 0 a) 1 b) 2 c) 0 0 ≡ a
  counts_first h =
      get_or-set_other (set (set l 0 a) 1 b) 2 0 c 0 (λ e. absurd (omega arith)) ∙ get_or-set_other (set l 0 a) 1 0 b 0 (λ e. absurd (omega arith)) ∙ get_or-set_same l 0 a 0 (omega arith)

-- STEP AFTER STEP
module _ (text : List ℕ) (so : Sofar) (n : Tally) (rows bits work : List ℕ) (d : Noted text so n rows bits work) (rows1 : List ℕ) (k1 : Kept 14019 12288 rows rows1) where
  metas1 : metas_in rows1 ≡ metas_in rows
  metas1 = k1.before 3 8192 (omega arith)

  pub metas_given : MetasNoted text d.metas.notes n.metas (metas_in rows1)
  metas_given = rw metas1 (metas_noted text so n rows bits work d)

  module _ (rows2 strings strings1 : List ℕ) (r1 : ℕ) (k2 : Kept 3 8192 rows1 rows2) (m2 : SettlesMetas text n.metas (metas_in rows1) strings (metas_in rows2) strings1 r1) where
    metas2 : MetasSettled d.metas.notes strings (metas_in rows2) strings1 r1
    metas2 = m2 d.metas.notes metas_given

    first : r1 ≡ io_start so.netlist
    first = metas2.next ∙ ap (λ (ms : List Meta). length (meta_strings ms)) d.metas.said

    ios2 : ios_in rows2 ≡ ios_in rows
    ios2 = k2.after 9219 192 (omega arith) ∙ k1.before 9219 192 (omega arith)

    pub ios_given : IosNoted text d.ios.notes n.ios r1 (ios_in rows2)
    ios_given = rw (ios2, first) (ios_noted text so n rows bits work d)

    module _ (rows3 strings2 : List ℕ) (r2 : ℕ) (k3 : Kept 9219 192 rows2 rows3) (i3 : SettlesIos text n.ios r1 (ios_in rows2) strings1 (ios_in rows3) strings2 r2) where
      ios3 : IosSettled d.ios.notes r1 strings1 (ios_in rows3) strings2 r2
      ios3 = i3 d.ios.notes ios_given

      second : r2 ≡ cell_start so.netlist
      second = ios3.next ∙ ap₂ (λ (a : ℕ) (is : List Io). a + length (io_strings is)) first d.ios.said

      cells3 : cells_in rows3 ≡ cells_in rows
      cells3 = k3.after 9411 4608 (omega arith) ∙ k2.after 9411 4608 (omega arith) ∙ k1.before 9411 4608 (omega arith)

      pub cells_given : CellsNoted text d.cells.notes n.cells r2 (cells_in rows3)
      cells_given = rw (cells3, second) (cells_noted text so n rows bits work d)

      module _ (rows4 strings3 : List ℕ) (r3 : ℕ) (k4 : Kept 9411 4608 rows3 rows4) (c4 : SettlesCells text n.cells r2 (cells_in rows3) strings2 (cells_in rows4) strings3 r3) where
        cells4 : CellsSettled d.cells.notes r2 strings2 (cells_in rows4) strings3 r3
        cells4 = c4 d.cells.notes cells_given

        -- all strings, one behind the other
        pooled : strings ≡ zeros 16384 → strings3 ≡ pad 16384 (strings_of so.netlist)
        pooled z =
            let N = so.netlist in
            let a = meta_strings N.metas in
            let b = io_strings N.ios in
            let e = cell_strings N.cells in
            let x : strings1 ≡ sets (zeros 16384) 0 a = metas2.laid ∙ ap₂ (λ (t : List ℕ) (ms : List Meta). sets t 0 (meta_strings ms)) z d.metas.said in
            let y : strings2 ≡ sets (sets (zeros 16384) 0 a) (length a) b = ios3.laid ∙ rw (x, d.ios.said, first) in
            let w : strings3 ≡ sets (sets (sets (zeros 16384) 0 a) (length a) b) (length a + length b) e = cells4.laid ∙ rw (y, d.cells.said, second) in
            w ∙ ap (λ (t : List ℕ). sets t (length a + length b) e) (sym (behind a b)) ∙ ap (λ (k : ℕ). sets (sets (zeros 16384) 0 (a ++ b)) k e) (sym (length-append a b)) ∙ sym (behind (a ++ b) e)
            ∙ ap (λ (t : List ℕ). sets (zeros 16384) 0 t) (append_assoc a b e) ∙ ap (λ (t : List ℕ). sets t 0 (a ++ (b ++ e))) none_pad
            ∙ pad_put 16384 0 [] (a ++ (b ++ e)) refl (omega (arith, all_strings text so n rows bits work d, length-append a (b ++ e), length-append b e))
          where
            behind : (p q : List ℕ) → sets (zeros 16384) 0 (p ++ q) ≡ sets (sets (zeros 16384) 0 p) (length p) q
            behind p q = sets_append (zeros 16384) 0 p q ∙ ap (λ (k : ℕ). sets (sets (zeros 16384) 0 p) k q) (zero-add (length p))

            none_pad : zeros 16384 ≡ pad 16384 []
            none_pad = sym (pad_none 16384)

        -- THE END
        pub finished : every (is_declared so.cell_numbers) (runs_of so.netlist.cells) ≡ true → RowsRuns (cell_map_in work) n.runs (runs_in rows) (runs_in rows1) → strings ≡ zeros 16384
            → (rows5 : List ℕ) → rows5 ≡ set (set (set rows4 0 n.metas) 1 n.ios) 2 n.cells → Settled so rows5 strings3 bits
        finished known r1s z rows5 e5 =
            let long4 : length rows4 ≡ 26307 = k4.long ∙ k3.long ∙ k2.long ∙ k1.long ∙ d.long_rows in
            rw e5 (record {
              long_rows = length-set (set (set rows4 0 n.metas) 1 n.ios) 2 n.cells ∙ length-set (set rows4 0 n.metas) 1 n.ios ∙ length-set rows4 0 n.metas ∙ long4;
              long_bits = d.long_bits;
              meta_count = counts_first rows4 n.metas n.ios n.cells (omega (arith, long4)) ∙ d.tally.metas;
              io_count = counts_second rows4 n.metas n.ios n.cells (omega (arith, long4)) ∙ d.tally.ios;
              cell_count = counts_third rows4 n.metas n.ios n.cells (omega (arith, long4)) ∙ d.tally.cells;
              metas = past_counts rows4 n.metas n.ios n.cells 3 8192 (omega arith) ∙ k4.before 3 8192 (omega arith) ∙ k3.before 3 8192 (omega arith) ∙ metas2.rows ∙ rw d.metas.said;
              members = past_counts rows4 n.metas n.ios n.cells 8195 1024 (omega arith) ∙ k4.before 8195 1024 (omega arith) ∙ k3.before 8195 1024 (omega arith) ∙ k2.after 8195 1024 (omega arith) ∙ k1.before 8195 1024 (omega arith) ∙ d.metas.members;
              ios = past_counts rows4 n.metas n.ios n.cells 9219 192 (omega arith) ∙ k4.before 9219 192 (omega arith) ∙ ios3.rows ∙ rw (d.ios.said, first);
              cells = past_counts rows4 n.metas n.ios n.cells 9411 4608 (omega arith) ∙ cells4.rows ∙ rw (d.cells.said, second);
              runs = past_counts rows4 n.metas n.ios n.cells 14019 12288 (omega arith) ∙ k4.after 14019 12288 (omega arith) ∙ k3.after 14019 12288 (omega arith) ∙ k2.after 14019 12288 (omega arith)
                  ∙ r1s so.cell_numbers (runs_of so.netlist.cells) d.cells.maps (runs_numbered text so n rows bits work d known);
              strings = pooled z;
              attr_trits = d.metas.bits;
              run_trits = d.cells.holds.bits;
            })

-- how many rows there are
module _ (text : List ℕ) (so : Sofar) (n : Tally) (rows bits work : List ℕ) (d : Noted text so n rows bits work) where
  pub few_rows : (n.metas ≤ 512) × (n.ios ≤ 512) × (n.cells ≤ 512) × (n.runs ≤ 4096)
  few_rows =
      let r = room text so n rows bits work d in
      (omega (arith, d.tally.metas, r.metas), omega (arith, d.tally.ios, r.ios), omega (arith, d.tally.cells, r.cells), omega (arith, d.tally.runs, r.runs))
