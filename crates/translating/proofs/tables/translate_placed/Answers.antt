use native.Mathlib.Omega.{arith}
use Rattle.translating.proofs.Ways.{too_many, no_room, is_roomy, some_room}
use Rattle.translating.proofs.tables.translate_placed.Goals as goal

pub sum_records-sum-requires : goal.sum_records-sum-requires
sum_records-sum-requires c = let o = c.requires in (o.table.cells_long, o.table.few, λ row h. (o.table.narrow row h).a)

pub returns-then-sum-gt8192 : goal.returns-then-sum-gt8192
returns-then-sum-gt8192 c = rw c.refused.ensures (too_many _ _ _ _ c.sum_records-sum.ensures.0 c.if-sum-gt8192.true)

pub returns-then-room-sum : goal.returns-then-room-sum
returns-then-room-sum c = rw c.refused-then-room-sum.ensures (no_room _ _ _ _ c.sum_records-sum.ensures.0 (omega (arith, c.if-sum-gt8192.false)) c.if-room-sum.true)

pub put_list-requires : goal.put_list-requires
put_list-requires c = let o = c.requires in (o, is_roomy _ _ _ _ c.sum_records-sum.ensures.0 o.sum (omega (arith, c.if-sum-gt8192.false)) (omega (arith, c.if-room-sum.false)))

pub returns : goal.returns
returns c = let o = c.requires in some_room _ _ _ _ c.sum_records-sum.ensures.0 o.sum (omega (arith, c.if-sum-gt8192.false)) (omega (arith, c.if-room-sum.false)) c.put_list.ensures
