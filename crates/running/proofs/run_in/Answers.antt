use mathlib.Core.Path.{sym, ◌∙◌, ap}
use Rattle.ground.specs.Regions.{zeros}
use Rattle.loadlist.proofs.Good.{good_list, bad_list}
use Rattle.running.proofs.Ways.{bad_way, good_way}
use Rattle.running.proofs.run_in.Goals as goal

pub run_good-requires : goal.run_good-requires
run_good-requires c =
    let l = c in
    let w = l in
    let s = w in
    (w.clear_bytes.ensures ∙ ap zeros s.requires, sym l.in-Ok.is ∙ l.check-listed.ensures)

pub returns-in-Ok : goal.returns-in-Ok
returns-in-Ok c =
    let l = c in
    let w = l in
    let s = w in
    let a = s.args in
    let g = good_list a.list.now _ _ (sym l.in-Ok.is ∙ l.check-listed.ensures) in
    good_way a.list.now a.ins.now a.outs.now a.work.now s.requires (w.clear_bytes.ensures ∙ ap zeros s.requires) g.all c.run_good.ensures

pub returns-in-Err : goal.returns-in-Err
returns-in-Err c =
    let l = c in
    let w = l in
    let s = w in
    let a = s.args in
    let e = bad_list a.list.now _ (sym l.in-Err.is ∙ l.check-listed.ensures) in
    rw c.refused.ensures (bad_way a.list.now a.ins.now a.outs.now a.work.now s.requires w.clear_bytes.ensures e)
