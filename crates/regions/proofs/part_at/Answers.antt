use Rattle.regions.proofs.Parts.{part_past, part_rest, part_whole}
use Rattle.regions.proofs.part_at.Goals as goal

pub returns-then-s-from : goal.returns-then-s-from
returns-then-s-from g c = let a = c.args in part_past a.s.now a.from a.size c.if-s-from.true

pub returns-then-s-from-2 : goal.returns-then-s-from-2
returns-then-s-from-2 g c = let a = c.args in part_rest a.s.now a.from a.size c.if-s-from-2.true

pub returns : goal.returns
returns g c = let a = c.args in part_whole a.s.now a.from a.size
