use lib.ListN.{take}
use Rattle.evaluating.proofs.Settling.{evaluation_few, answer_long}
use Rattle.evaluating.proofs.Ways.{told, no_room, some_room}
use Rattle.ground.proofs.Writes.{put_length}
use native.Mathlib.Omega.{arith}
use Rattle.evaluating.proofs.good.evaluate_placed.Goals as goal

pub returns-then-outs-k : goal.returns-then-outs-k
returns-then-outs-k c = rw c.refused.ensures (no_room _ c.args.outs.now _ (told c.settle-k.ensures) c.if-outs-k.true)

pub copy_bits-requires : goal.copy_bits-requires
copy_bits-requires c = let a = c.args in let p = c.settle-k.ensures in let m = evaluation_few c.requires.0 (take a.count a.order.now) a.ins.now in (omega (arith, told p, m, put_length p, answer_long), omega (arith, c.if-outs-k.false))

pub returns : goal.returns
returns c = let a = c.args in let p = c.settle-k.ensures in let m = evaluation_few c.requires.0 (take a.count a.order.now) a.ins.now in some_room _ a.outs.now _ _ _ _ p (omega (arith, m, answer_long)) c.if-outs-k.false c.copy_bits.ensures
