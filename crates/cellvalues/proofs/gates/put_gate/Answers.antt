use Prim.Native.Nat.{min}
use native.Mathlib.Omega.{arith}
use lib.ListN.{length}
use Rattle.cellvalues.specs.Picked.{gate_of}
use Rattle.cells.proofs.Filling.{start, turn, done}
use Rattle.cells.proofs.Places as places
use Rattle.cellvalues.proofs.gates.put_gate.Goals as goal

pub loop-i-init : goal.loop-i-init
loop-i-init c = (rw c.least.ensures at c.least-n.ensures, start _ _ _)

pub loop-i-preserved : goal.loop-i-preserved
loop-i-preserved c =
    let l = c in
    let a = c.args in
    (l.loop-i.invariant.0, turn l.loop-i.invariant.1 (places.pairs_go a.a.now a.b.now l.loop-i.i (omega (arith, l.loop-i.invariant.0)) (omega (arith, l.loop-i.invariant.0)) (gate_of a.kind)) c.gate_bit.ensures)

pub shape_of-out : goal.shape_of-out
shape_of-out c = c.loop-i.invariant.1.long

pub returns : goal.returns
returns c =
    let a = c.args in
    done (min (length a.a.now) (length a.b.now)) c.loop-i.invariant.1 (omega (arith, c.loop-i.invariant.0)) (λ h. places.pairs_end a.a.now a.b.now c.loop-i.i h (gate_of a.kind))
