use Prim.Native.Nat.{◌*◌}
use Rattle.loadlist.proofs.Laws.{read_there, read_field, read_past}
use Rattle.loadlist.proofs.records.part_record.Goals as goal

pub returns-then-list-k : goal.returns-then-list-k
returns-then-list-k c = let s = c.args in read_past s.list.now s.k c.if-list-k.true

pub returns : goal.returns
returns c =
    let p = c in
    let q = p in
    let s = q.args in
    read_there s.list.now (8 * s.k) q.byte_at-op.ensures (read_field p.field-first.ensures p.byte_at.ensures p.byte_at-2.ensures) (read_field c.field-second.ensures c.byte_at-3.ensures c.byte_at-4.ensures)
