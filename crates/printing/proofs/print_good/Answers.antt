use Rattle.printing.proofs.Printing.{room_short, room_enough}
use native.Mathlib.Omega.{arith}
use Rattle.netlist.specs.Good.{netlist_in}
use Rattle.printing.proofs.print_good.Goals as goal

pub returns-then-room-n : goal.returns-then-room-n
returns-then-room-n c = let p = c in rw c.refused.ensures (room_short _ p.args.room.now _ c.count_good-n.ensures c.if-room-n.true)

pub returns : goal.returns
returns c = let p = c in let a = p.args in room_enough (netlist_in a.rows.now a.strings.now a.bits.now) (omega (arith, p.well_formed.1.1.1.0.1)) c.count_good-n.ensures c.if-room-n.false (omega (arith, c.put_good.type_inv)) c.put_good.ensures
