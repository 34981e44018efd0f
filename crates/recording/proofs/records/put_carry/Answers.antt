use native.Mathlib.Omega.{arith}
use mathlib.Core.Path.{refl}
use Rattle.recording.proofs.Left.{puts_then}
use Rattle.recording.proofs.records.put_carry.Goals as goal

pub returns : goal.returns
returns c =
    let p4 = c.put.ensures in
    let p3 = c.put-on.ensures in
    let p2 = c.put-one.ensures in
    let p1 = c.put-both.ensures in
    (omega arith, puts_then (puts_then (puts_then p1.1 refl p2.1) refl (rw p2.0 at p3.1)) refl (rw (p1.0, p3.0) at p4.1))
