use Rattle.std.proofs.Common.{arith}
use Rattle.telling.proofs.Laws.{bits_more, bits_done}
use Rattle.telling.proofs.bits.put_bits.Goals as goal

pub loop-i-preserved : goal.loop-i-preserved
loop-i-preserved c = bits_more c.args.letters.now c.loop-i.room _ c.loop-i.i _ (omega arith) c.bit_of.ensures c.loop-i.invariant

pub returns-clause-room_after : goal.returns-clause-room_after
returns-clause-room_after c = bits_done c.args.letters.now c.loop-i.room _ c.loop-i.i (omega arith) c.loop-i.invariant
