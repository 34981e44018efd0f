use Rattle.finishing.proofs.Finishing.{kept_put, there_put}
use Rattle.ground.specs.Regions.{part}
use Rattle.ground.proofs.Regions.{part_length}
use lib.ListN.{length}
use native.Mathlib.Omega.{arith}
use mathlib.Core.Path.{◌≡◌, refl, ◌∙◌}
use Prim.Native.Nat.{◌+◌, ◌-◌, ◌≤◌}
use Rattle.finishing.proofs.finish.settle_all_metas.Goals as goal

pub settle_metas-requires : goal.settle_metas-requires
unfolding part
settle_metas-requires c = (c.requires.1, c.requires.2)

pub returns : goal.returns
unfolding part
returns c = let a = c.args in
    let long = c.requires.0 in
    let r = c.settle_metas in
    let room : 3 + 8192 ≤ length a.rows.now = omega (arith, long) in
    let same : length r.new.metas ≡ 8192 = omega (arith, r.auto, part_length 3 8192 a.rows.now room) in
    (kept_put 3 8195 8192 a.rows.now r.new.metas refl room same, λ ns d. let q = r.ensures ns d in record { rows = there_put 3 8195 8192 a.rows.now r.new.metas refl room same ∙ q.rows; laid = q.laid; next = q.next })
