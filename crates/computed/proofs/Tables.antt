-- Tables of their full lengths, computed: those that hold a netlist, and lent slices at the edge of what is asked of them.
use Rattle.std.specs.Prelude.{Ok, Err}
use mathlib.Core.Path.{◌≡◌, refl}
use mathlib.Core.Bool.{true}
use mathlib.Core.List.{◌∷◌}
use lib.ListN.{replicate}
use Rattle.ground.specs.Lists.{every, all_of, total, joined}
use Rattle.ground.specs.Refusals.{at, refusal}
use Rattle.ground.specs.Regions.{zeros, blank, fits, pad, part}
use Rattle.ground.specs.Text.{bytes, same}
use Rattle.kinds.specs.Kinds.{kind_at}
use Rattle.netlist.specs.Runs.{longest}
use Rattle.netlist.specs.Rules.{taken, distinct, names_as, roomy, metas_sound, valid}
use Rattle.netlist.specs.Tables.{Tables, meta_rows, io_rows, cell_rows, run_rows, layout, rows_of, bits_of, tables_in}
use Rattle.netlist.specs.View.{metas_in, ios_in, runs_in, cells_in, view}
use Rattle.netlist.specs.Good.{laid, good, short, check_of}
use Rattle.netlist.proofs.Cases.{meta, metas, cell, netlist, whole}

-- the tables of a netlist show it again, through slices of their full lengths; and they are good
lent : Tables
unfolding whole
lent = tables_in (rows_of (layout whole)) (layout whole).strings (bits_of (layout whole))

shown : view lent ≡ whole
unfolding lent meta metas cell netlist whole joined bytes zeros pad part meta_rows io_rows cell_rows run_rows layout rows_of bits_of tables_in metas_in ios_in runs_in cells_in view
shown = refl

held : good lent ≡ true
unfolding lent meta metas cell netlist whole every all_of total joined bytes same kind_at longest taken distinct names_as roomy metas_sound valid zeros blank fits pad part meta_rows io_rows cell_rows run_rows layout rows_of bits_of tables_in metas_in ios_in runs_in cells_in view laid good
held = refl

-- lent slices: one word short is 1; zeros show no declaration, and are good; a row counted that is not there is 15
lent_right :
    (check_of (replicate 26306 0) (replicate 16384 0) (replicate 393728 0) ≡ Err (refusal 1 (at 0)))
    × (check_of (replicate 26307 0) (replicate 16384 0) (replicate 393728 0) ≡ Ok tt)
    × (check_of (1 ∷ replicate 26306 0) (replicate 16384 0) (replicate 393728 0) ≡ Err (refusal 15 (at 0)))
unfolding every all_of total joined bytes same kind_at longest taken distinct names_as roomy metas_sound valid zeros blank fits pad part meta_rows io_rows cell_rows run_rows tables_in metas_in ios_in runs_in cells_in view laid good short check_of
lent_right = (refl, refl, refl)
