use Prim.Native.Nat.{◌*◌, ◌/◌, ◌%◌}
use native.Mathlib.Omega.{arith}
use lib.ListN.{length-set}
use Rattle.loadlist.proofs.Written.{eight}
use Rattle.loadlist.proofs.records.put_record.Goals as goal

pub bounds-list-at-2 : goal.bounds-list-at-2
bounds-list-at-2 c = simp length-set (omega arith)

pub bounds-list-at-3 : goal.bounds-list-at-3
bounds-list-at-3 c = simp length-set (omega arith)

pub bounds-list-at-4 : goal.bounds-list-at-4
bounds-list-at-4 c = simp length-set (omega arith)

pub bounds-list-at-5 : goal.bounds-list-at-5
bounds-list-at-5 c = simp length-set (omega arith)

pub bounds-list-at-6 : goal.bounds-list-at-6
bounds-list-at-6 c = simp length-set (omega arith)

pub bounds-list-at-7 : goal.bounds-list-at-7
bounds-list-at-7 c = simp length-set (omega arith)

pub bounds-list-at-8 : goal.bounds-list-at-8
bounds-list-at-8 c = simp length-set (omega arith)

pub returns : goal.returns
returns c =
    let s = c.args in
    rw (c.low.ensures, c.high.ensures, c.low-2.ensures, c.high-2.ensures) (eight s.list.now (8 * s.k) 0x47 0x53 s.r.op 0 (s.r.first % 256) (s.r.first / 256) (s.r.second % 256) (s.r.second / 256))
