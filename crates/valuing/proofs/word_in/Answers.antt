use lib.Seq.{get_or-drop}
use mathlib.Core.Path.{sym}
use Prim.Native.Nat.{◌+◌, ◌*◌}
use native.Mathlib.Omega.{arith}
use Rattle.valuing.proofs.word_in.Goals as goal

pub overflow_cast-result : goal.overflow_cast-result
overflow_cast-result c = omega (arith, c.shared_slice_known-1.given (c.args.row * 9 + c.args.i))

pub returns : goal.returns
returns c = (sym (get_or-drop (c.args.row * 9) c.args.cells.now c.args.i 0), omega (arith, c.shared_slice_known-1.given (c.args.row * 9 + c.args.i)))
