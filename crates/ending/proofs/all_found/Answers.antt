use native.Mathlib.Omega.{arith}
use Rattle.ground.proofs.Regions.{part_length}
use Rattle.ending.proofs.all_found.Goals as goal

pub returns-then-n : goal.returns-then-n
returns-then-n c = rw c.if-n.true

pub runs_resolve-requires : goal.runs_resolve-requires
runs_resolve-requires c = let p = c in rw c.runs_of.ensures (record { long = part_length 14019 12288 p.args.rows.now (omega (arith, p.requires.0)); few = p.requires.2 })

pub returns : goal.returns
returns c = let e = c.runs_resolve.ensures in rw c.if-n.false (rw (c.cell_numbers_of.ensures, c.cells_of.ensures, c.runs_of.ensures) at e)
