use lib.ListN.{get_or}
use Rattle.checkcells.proofs.Laws.{kind_small, placed_is}
use Rattle.checkcells.specs.Walk.{cell_good}
use Rattle.ground.proofs.Bools.{and_true}
use mathlib.Core.Path.{sym, ◌∙◌}
use native.Mathlib.Omega.{arith}
use Rattle.checkcells.proofs.cells.cell_good.Goals as goal

pub overflow_cast-kind : goal.overflow_cast-kind
overflow_cast-kind c = let k = sym c.kind_known.ensures ∙ c.if-kind_known.true in omega (arith, kind_small (get_or c.args.row.now 0 0) k)

pub operands_good-found-requires : goal.operands_good-found-requires
operands_good-found-requires c = let a = c.args in let e = rw (c.is_placed.ensures, c.head_sound.ensures) at (sym c.both.ensures ∙ c.if-both.true) in let p = placed_is a.s a.r a.row.now (and_true _ _ e).0 in (c.requires.0, c.requires.2, c.requires.3, omega (arith, p.runs, c.word_of.ensures.0, c.word_of-then-both.ensures.0, c.word_of-then-both-2.ensures.0), c.requires.6)

pub returns-then-both : goal.returns-then-both
unfolding cell_good
returns-then-both c = let k = sym c.kind_known.ensures ∙ c.if-kind_known.true in let e = rw (c.is_placed.ensures, c.head_sound.ensures) at (sym c.both.ensures ∙ c.if-both.true) in (rw (k, e, ← c.word_of.ensures.0, ← c.word_of-then-both.ensures.0, ← c.word_of-then-both-2.ensures.0, ← c.word_of-then-both-3.ensures.0, ← c.operands_good-found.ensures.0) c.judge.ensures.0, c.judge.ensures.1, c.judge.ensures.2)

pub returns-then-kind_known : goal.returns-then-kind_known
unfolding cell_good
returns-then-kind_known c = let k = sym c.kind_known.ensures ∙ c.if-kind_known.true in let e = rw (c.is_placed.ensures, c.head_sound.ensures) at (sym c.both.ensures ∙ c.if-both.false) in (rw (k, e), omega arith, omega arith)

pub returns : goal.returns
unfolding cell_good
returns c = let k = sym c.kind_known.ensures ∙ c.if-kind_known.false in (rw k, omega arith, omega arith)
