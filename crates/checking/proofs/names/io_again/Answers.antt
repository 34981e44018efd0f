use Prim.Native.Nat.{◌*◌}
use native.Mathlib.Omega.{arith}
use mathlib.Core.Path.{sym, ◌∙◌}
use Rattle.checking.proofs.Laws.{name_part, row_word, row_head}
use Rattle.checking.proofs.Marking.{io_new, io_seen}
use Rattle.checking.proofs.names.io_again.Goals as goal

pub slice_bounds-is_new_name-end : goal.slice_bounds-is_new_name-end
slice_bounds-is_new_name-end c = let a = c.args in let u = row_head (a.i * 3) _ a.ios.now c.word_of-start.ensures.0 in let v = row_word (a.i * 3) 1 _ a.ios.now c.word_of.ensures.0 in omega (arith, u, v, c.requires.1.each a.i c.requires.0)

pub returns-then-is_new_name : goal.returns-then-is_new_name
returns-then-is_new_name c = let a = c.args in let u = row_head (a.i * 3) _ a.ios.now c.word_of-start.ensures.0 in let v = row_word (a.i * 3) 1 _ a.ios.now c.word_of.ensures.0 in io_new a.strings.now a.n a.i a.ios.now a.seen.now c.requires.0 c.requires.2 _ _ (name_part a.strings.now _ _ _ _ u v) (sym c.is_new_name.ensures.0 ∙ c.if-is_new_name.true) c.is_new_name.ensures.1

pub slice_bounds-io_taken-end : goal.slice_bounds-io_taken-end
slice_bounds-io_taken-end c = let a = c.args in let u = row_head (a.i * 3) _ a.ios.now c.word_of-start.ensures.0 in let v = row_word (a.i * 3) 1 _ a.ios.now c.word_of.ensures.0 in omega (arith, u, v, c.requires.1.each a.i c.requires.0)

pub returns : goal.returns
returns c = let a = c.args in let u = row_head (a.i * 3) _ a.ios.now c.word_of-start.ensures.0 in let v = row_word (a.i * 3) 1 _ a.ios.now c.word_of.ensures.0 in io_seen a.strings.now a.n a.i a.ios.now a.seen.now c.requires.0 c.requires.2 _ _ _ (name_part a.strings.now _ _ _ _ u v) c.io_taken.ensures c.is_new_name.ensures.1
