use native.Mathlib.Omega.{arith}
use mathlib.Core.Path.{refl}
use Rattle.recording.proofs.Left.{puts_then}
use Rattle.recording.proofs.adc.put_sum.Goals as goal

pub returns : goal.returns
returns c =
    let p2 = c.put.ensures in
    let p1 = c.put-half.ensures in
    (omega arith, puts_then p1.1 refl (rw p1.0 at p2.1))
