use mathlib.Core.Path.{sym, ◌∙◌}
use Rattle.loadlist.proofs.Good.{good_list}
use Rattle.running.proofs.Ways.{unfit, wrong_length, wrong_bit, no_room, slots_room, slots_held, answer_count, ran}
use Rattle.running.proofs.run_good.Goals as goal

pub returns-then-ins-inputs : goal.returns-then-ins-inputs
returns-then-ins-inputs c =
    let s = c in
    let a = s.args in
    let g = good_list a.list.now a.inputs a.outputs s.requires.1 in
    rw c.refused.ensures (unfit a.ins.now a.outs.now s.requires.0 g (wrong_length a.inputs a.ins.now c.if-ins-inputs.true))

pub returns-then-outs-outputs : goal.returns-then-outs-outputs
returns-then-outs-outputs c =
    let t = c in
    let s = t in
    let a = s.args in
    let g = good_list a.list.now a.inputs a.outputs s.requires.1 in
    let b = sym t.all_trits.ensures ∙ c.if-all_trits.true in
    rw c.refused-then-outs-outputs.ensures (no_room a.ins.now a.outs.now s.requires.0 g t.if-ins-inputs.false b c.if-outs-outputs.true)

pub make_slots-requires : goal.make_slots-requires
make_slots-requires c =
    let n = c in
    let t = n in
    let s = t in
    let a = s.args in
    let g = good_list a.list.now a.inputs a.outputs s.requires.1 in
    let b = sym t.all_trits.ensures ∙ n.if-all_trits.true in
    slots_room a.ins.now a.outs.now s.requires.0 g t.if-ins-inputs.false b n.if-outs-outputs.false n.record_count-n.ensures

pub give_outputs-requires : goal.give_outputs-requires
give_outputs-requires c =
    let m = c in
    let n = m in
    let t = n in
    let s = t in
    let a = s.args in
    let g = good_list a.list.now a.inputs a.outputs s.requires.1 in
    let b = sym t.all_trits.ensures ∙ n.if-all_trits.true in (
      slots_held a.ins.now a.outs.now s.requires.0 g t.if-ins-inputs.false b n.if-outs-outputs.false n.record_count-n.ensures m.make_slots.ensures,
      n.if-outs-outputs.false,
      answer_count a.ins.now a.outs.now s.requires.0 g t.if-ins-inputs.false b n.if-outs-outputs.false n.record_count-n.ensures m.make_slots.ensures,
    )

pub returns-then-all_trits : goal.returns-then-all_trits
returns-then-all_trits c =
    let m = c in
    let n = m in
    let t = n in
    let s = t in
    let a = s.args in
    let g = good_list a.list.now a.inputs a.outputs s.requires.1 in
    let b = sym t.all_trits.ensures ∙ n.if-all_trits.true in
    ran a.ins.now a.outs.now s.requires.0 g t.if-ins-inputs.false b n.if-outs-outputs.false n.record_count-n.ensures m.make_slots.ensures c.give_outputs.ensures

pub returns : goal.returns
returns c =
    let t = c in
    let s = t in
    let a = s.args in
    let g = good_list a.list.now a.inputs a.outputs s.requires.1 in
    let b = sym t.all_trits.ensures ∙ c.if-all_trits.false in
    rw c.refused-2.ensures (unfit a.ins.now a.outs.now s.requires.0 g (wrong_bit a.inputs a.ins.now t.if-ins-inputs.false b))
