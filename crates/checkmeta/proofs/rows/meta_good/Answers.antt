use mathlib.Core.Path.{sym, ◌∙◌}
use Rattle.checkmeta.proofs.Laws.{placed_is, part_is}
use Rattle.checkmeta.specs.Walk.{meta_good}
use native.Mathlib.Omega.{arith}
use Rattle.checkmeta.proofs.rows.meta_good.Goals as goal

pub slice_bounds-all_members-end : goal.slice_bounds-all_members-end
slice_bounds-all_members-end c = let a = c.args in omega (arith, (placed_is a.s a.m a.b a.row.now (sym c.is_placed.ensures ∙ c.if-is_placed.true)).members, c.word_of.ensures.0, c.requires)

pub slice_bounds-all_trits-end : goal.slice_bounds-all_trits-end
slice_bounds-all_trits-end c = let a = c.args in omega (arith, (placed_is a.s a.m a.b a.row.now (sym c.is_placed.ensures ∙ c.if-is_placed.true)).bits, c.word_of-then-is_placed.ensures.0, c.requires)

pub returns-then-is_placed : goal.returns-then-is_placed
unfolding meta_good
returns-then-is_placed c = let a = c.args in rw (c.both-then-is_placed-2.ensures, c.both-then-is_placed.ensures, c.all_trits.ensures, c.all_members.ensures, c.both.ensures, c.values_sound.ensures, c.sizes_sound.ensures, part_is a.members.now a.m c.word_of.result, part_is a.bits.now a.b c.word_of-then-is_placed.result, c.word_of-then-is_placed.ensures.0, c.word_of.ensures.0, ← c.is_placed.ensures, c.if-is_placed.true)

pub returns : goal.returns
unfolding meta_good
returns c = rw (← c.is_placed.ensures, c.if-is_placed.false)
