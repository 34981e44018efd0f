use native.Mathlib.Omega.{arith}
use Rattle.naming.specs.Rows.{name_at}
use Rattle.naming.proofs.Laws.{room_short, room_enough}
use Rattle.naming.proofs.name_row.Goals as goal

pub returns-then-room-n : goal.returns-then-room-n
returns-then-room-n c = let a = c.args in rw c.refused.ensures (room_short (name_at a.row a.metas.now a.strings.now a.row) a.room.now _ c.count_name-n.ensures c.if-room-n.true)

pub returns : goal.returns
returns c = let p = c in let a = p.args in room_enough (name_at a.row a.metas.now a.strings.now a.row) (omega (arith, p.well_formed.0.1)) c.count_name-n.ensures c.if-room-n.false (omega (arith, c.put_name.type_inv)) c.put_name.ensures
