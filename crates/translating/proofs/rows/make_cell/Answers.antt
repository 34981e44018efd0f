use mathlib.Core.Path.{refl, ap}
use Rattle.cells.specs.Records.{kind_made}
use native.Mathlib.Omega.{arith}
use Rattle.recording.specs.Making.{Recorded}
use Rattle.translating.proofs.Rowing.{cell_listed, cell_slots}
use Rattle.translating.proofs.rows.make_cell.Goals as goal

pub overflow_add-result : goal.overflow_add-result
overflow_add-result c = omega (arith, ap (λ (x : Recorded). x.count) c.make.ensures, c.requires.0.slots)

pub returns : goal.returns
returns c = let a = c.args in let m = kind_made a.kind a.k a.a.now a.b.now a.c.now in (cell_listed m a.k a.list.now _ c.make.ensures, cell_slots m a.k a.list.now _ c.make.ensures a.slots.now a.start refl c.requires.1)
