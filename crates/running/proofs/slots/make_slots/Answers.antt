use native.Mathlib.Omega.{arith}
use Rattle.running.proofs.Laws.{made_none, made_more, made_all}
use Rattle.running.proofs.slots.make_slots.Goals as goal

pub loop-k-init : goal.loop-k-init
loop-k-init c = (omega arith, made_none _ _ _ _)

pub loop-k-preserved : goal.loop-k-preserved
loop-k-preserved c =
    let l = c in
    (omega arith, made_more l.loop-k.invariant.1 c.loop-k-test.true (omega arith) c.record_at-r.ensures c.slot_of-x.ensures)

pub shape_of-work : goal.shape_of-work
shape_of-work c = c.loop-k.invariant.1.long

pub returns : goal.returns
returns c = made_all c.loop-k.invariant.1 (omega arith)
