use Prim.Native.Nat.{◌-◌}
use Rattle.signs.specs.Bytes.{trit_of}
use lib.ListN.{length-set}
use native.Mathlib.Omega.{arith}
use Rattle.constants.proofs.Copying.{copied_more, copied_all}
use Rattle.constants.proofs.copy_trits.Goals as goal

pub loop-i-preserved : goal.loop-i-preserved
loop-i-preserved c = let l = c in let s = l in let a = s.args in (omega arith, simp length-set l.loop-i.invariant.1, rw c.trit_of.ensures (copied_more a.text.now a.from a.size s.requires.0 a.trits.now a.at l.loop-i.i (omega arith) l.loop-i.invariant.2))

pub returns : goal.returns
returns c = let l = c in let s = l in let a = s.args in copied_all a.text.now a.from a.size s.requires.0 a.trits.now a.at l.loop-i.i c.loop-i-test.false l.loop-i.invariant.2
