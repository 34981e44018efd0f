use Prim.Native.Nat.{◌-◌}
use mathlib.Core.Path.{◌≡◌, refl, sym, ◌∙◌}
use native.Mathlib.Numerals.{add-one}
use native.Mathlib.Omega.{arith}
use lib.ListN.{length, length-set}
use Rattle.signs.specs.Pieces.{decoded}
use Rattle.signs.proofs.Strings.{next_meant, sets_none}
use Rattle.decoding.proofs.fill.Goals as goal

pub loop-done-init : goal.loop-done-init
loop-done-init c = (refl, omega arith, refl)

pub next_byte-next-requires : goal.next_byte-next-requires
next_byte-next-requires c = omega (arith, c.loop-done.invariant.1)

pub loop-done-preserved : goal.loop-done-preserved
loop-done-preserved c = let p = c in
    let q = c in
    let e = next_meant _ p.loop-done.i (omega (arith, p.loop-done.invariant.1)) _ q.next_byte-next.ensures in
    (rw c.put.ensures (simp length-set p.loop-done.invariant.0), omega (arith, rw e at p.loop-done.invariant.1), rw (c.put.ensures, add-one) (rw e at p.loop-done.invariant.2))

pub returns : goal.returns
returns c = let p = c in
    let rest = decoded p.args.text.now p.loop-done.i in
    let e : length rest ≡ 0 = omega (arith, p.loop-done.invariant.1) in
    sym (sets_none p.loop-done.room p.loop-done.done rest e) ∙ p.loop-done.invariant.2
