use Rattle.ground.specs.Regions.{part}
use Rattle.finishing.proofs.Finishing.{kept_put, there_put}
use Rattle.ground.proofs.Regions.{part_length}
use lib.ListN.{length}
use native.Mathlib.Omega.{arith}
use mathlib.Core.Path.{◌≡◌, refl, ◌∙◌}
use Prim.Native.Nat.{◌+◌, ◌≤◌}
use Rattle.finishing.proofs.finish.row_all_runs.Goals as goal

pub returns : goal.returns
unfolding part
returns c = let a = c.args in
    let long = c.requires.0 in
    let r = c.row_runs in
    let room : 14019 + 12288 ≤ length a.rows.now = omega (arith, long) in
    let same : length r.new.runs ≡ 12288 = omega (arith, r.auto.runs, part_length 14019 12288 a.rows.now room) in
    (kept_put 14019 26307 12288 a.rows.now r.new.runs refl room same, λ numbers rs m d. there_put 14019 26307 12288 a.rows.now r.new.runs refl room same ∙ r.ensures numbers rs m d)
