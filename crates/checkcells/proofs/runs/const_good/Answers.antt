use Rattle.checkmeta.proofs.Laws.{lies_is, part_is}
use mathlib.Core.Path.{sym, ◌∙◌}
use native.Mathlib.Omega.{arith}
use Rattle.checkcells.proofs.runs.const_good.Goals as goal

pub slice_bounds-all_trits-end : goal.slice_bounds-all_trits-end
slice_bounds-all_trits-end c = let a = c.args in omega (arith, (lies_is a.b 262656 a.start a.width (sym c.lies_at.ensures ∙ c.if-lies_at.true)).1, c.requires)

pub returns-then-lies_at : goal.returns-then-lies_at
returns-then-lies_at c = let a = c.args in rw (← c.lies_at.ensures, c.if-lies_at.true, ← part_is a.bits.now a.b a.width) c.all_trits.ensures

pub returns : goal.returns
returns c = rw (← c.lies_at.ensures, c.if-lies_at.false)
