use Rattle.saying.specs.Values.{trits_in}
use Rattle.constants.proofs.Copying.{trits_long}
use Rattle.laying.proofs.Adding.{trits_all, trits_room}
use native.Mathlib.Omega.{arith}
use Rattle.cellruns.proofs.parts.add_constant.Goals as goal

pub copy_trits-requires : goal.copy_trits-requires
copy_trits-requires c =
    let s = c in
    let a = s.args in
    let h = s.requires.1 in
    (s.requires.0, omega (arith, trits_all h, trits_room h))

pub add_known-requires : goal.add_known-requires
add_known-requires c =
    let s = c in
    let a = s.args in
    let h = s.requires.1 in
    record { trits = a.trits.now; opened = h }

pub returns : goal.returns
returns c =
    let s = c in
    let a = s.args in
    let h = s.requires.1 in
    rw c.copy_trits.ensures (c.add_known.ensures a.trits.now (trits_in a.text.now a.s) (trits_long a.text.now a.s.from a.s.size s.requires.0))
