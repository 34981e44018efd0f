use native.Mathlib.Omega.{arith}
use mathlib.Core.Path.{refl}
use Rattle.recording.proofs.Left.{puts_then}
use Rattle.recording.proofs.compare.put_below.Goals as goal

pub returns : goal.returns
returns c =
    let p2 = c.put_carry.ensures in
    let p1 = c.put-other.ensures in
    (omega arith, puts_then p1.1 refl (rw p1.0 at p2.1))
