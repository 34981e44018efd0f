use Rattle.checking.proofs.Laws.{name_part, row_word, row_head}
use native.Mathlib.Omega.{arith}
use Prim.Native.Nat.{◌*◌}
use Rattle.checking.proofs.names.io_named.Goals as goal

pub slice_bounds-same_bytes-end : goal.slice_bounds-same_bytes-end
slice_bounds-same_bytes-end c = let a = c.args in let u = row_head (a.i * 3) _ a.ios.now c.word_of-start.ensures.0 in let v = row_word (a.i * 3) 1 _ a.ios.now c.word_of.ensures.0 in omega (arith, u, v, c.requires.1)

pub returns : goal.returns
returns c = let a = c.args in let u = row_head (a.i * 3) _ a.ios.now c.word_of-start.ensures.0 in let v = row_word (a.i * 3) 1 _ a.ios.now c.word_of.ensures.0 in rw (← name_part a.strings.now _ _ _ _ u v) c.same_bytes.ensures
