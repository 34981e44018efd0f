use mathlib.Core.Path.{◌≡◌, sym, ◌∙◌, ap}
use Prim.Native.Nat.{ℕ, suc, ◌-◌}
use native.Mathlib.Omega.{arith}
use lib.ListN.{get_or}
use Rattle.ground.specs.Choice.{pick}
use Rattle.pads.specs.Pads.{pad_named}
use Rattle.pads.proofs.Far.{far, far_none, far_more}
use Rattle.pads.proofs.find_pad.Goals as goal

pub loop-row-init : goal.loop-row-init
loop-row-init c = (omega arith, sym (far_none _ _ _))

pub loop-row-preserved : goal.loop-row-preserved
loop-row-preserved c =
    let a = c.args in
    let i = c.loop-row.invariant in
    let j = c.loop-row.row - 1 in
    let e : c.loop-row.row ≡ suc j = omega arith in
    let k : c.loop-row.found ≡ far a.strings.now a.name.now a.pads.now (suc j) = i.1 ∙ ap (λ (t : ℕ). far a.strings.now a.name.now a.pads.now t) e in
    (omega arith, c.found_at-found.ensures ∙ ap (λ (f : ℕ). pick (pad_named a.strings.now (get_or a.pads.now j record { start = 0; length = 0; width = 0 }) a.name.now) j f) k ∙ far_more a.strings.now a.name.now a.pads.now record { start = 0; length = 0; width = 0 } j (omega arith))
