use Rattle.running.proofs.Ways.{short, whole_way}
use Rattle.running.proofs.run.Goals as goal

pub returns-then-work-lt8192 : goal.returns-then-work-lt8192
returns-then-work-lt8192 c =
    let a = c.args in
    rw c.refused.ensures (short a.list.now a.ins.now a.outs.now a.work.now c.if-work-lt8192.true)

pub returns : goal.returns
returns c =
    let a = c.args in
    whole_way a.list.now a.ins.now a.outs.now a.work.now c.if-work-lt8192.false c.run_in.ensures
