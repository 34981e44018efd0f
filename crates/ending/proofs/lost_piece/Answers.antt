use mathlib.Core.Path.{sym, ◌∙◌}
use native.Mathlib.Omega.{arith}
use Rattle.ground.proofs.Regions.{part_length}
use Rattle.reading.proofs.Answering.{lost_found, rows_tell}
use Rattle.ending.proofs.lost_piece.Goals as goal

pub all_found-requires : goal.all_found-requires
all_found-requires c = let p = c in (p.requires.0, p.requires.1, p.requires.3)

pub returns-then-all_found : goal.returns-then-all_found
returns-then-all_found c = let a = c.args in rows_tell a.text.now a.n a.rows.now a.work.now (sym c.all_found.ensures ∙ c.if-all_found.true)

pub first_lost-requires : goal.first_lost-requires
first_lost-requires c = let p = c in
    rw c.places_of.ensures (omega (arith, part_length 131072 1536 p.args.work.now (omega (arith, p.requires.1)), p.requires.2))

pub returns : goal.returns
returns c = let a = c.args in let e = c.first_lost.ensures in lost_found a.text.now a.n a.rows.now a.work.now _ (rw (c.places_of.ensures, c.cell_numbers_of.ensures, c.cells_of.ensures) at e)
