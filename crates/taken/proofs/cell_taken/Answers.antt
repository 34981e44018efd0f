use mathlib.Core.Path.{sym, ◌∙◌}
use Rattle.asking.proofs.NameLaws.{cell_found}
use Rattle.taken.proofs.cell_taken.Goals as goal

pub returns-then-fresh : goal.returns-then-fresh
returns-then-fresh c = let s = c in
    let a = s.args in
    λ ns r l sp. sym (s.requires.2.none c.if-fresh.true) ∙ cell_found a.text.now a.cells.now a.n a.kind a.from a.size s.requires.1 ns r l sp
