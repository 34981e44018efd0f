use mathlib.Core.Path.{◌≡◌, refl, ◌∙◌, ap}
use native.Mathlib.Omega.{arith}
use lib.ListN.{length, length-set}
use Rattle.ground.proofs.Lent.{zero_none, zero_more, over_all}
use Rattle.ground.specs.Regions.{zeros}
use Rattle.clearing.proofs.clear_words.Goals as goal

pub loop-i-init : goal.loop-i-init
loop-i-init c = (zero_none _, refl)

pub loop-i-preserved : goal.loop-i-preserved
loop-i-preserved c =
    let l = c in
    let w = l.args.words.now in
    (rw l.loop-i.invariant.0 (zero_more w l.loop-i.i (omega arith)), length-set l.loop-i.words l.loop-i.i 0 ∙ l.loop-i.invariant.1)

pub returns : goal.returns
returns c =
    let l = c in
    let w = l.args.words.now in
    let e : l.loop-i.i ≡ length w = omega arith in
    l.loop-i.invariant.0 ∙ over_all l.loop-i.i (zeros l.loop-i.i) w (omega arith) ∙ ap zeros e
