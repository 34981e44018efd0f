use native.Mathlib.Omega.{arith}
use lib.ListN.{length}
use Rattle.cells.proofs.Filling.{start, turn, done}
use Rattle.cells.proofs.Places as places
use Rattle.cellvalues.proofs.gates.put_not.Goals as goal

pub loop-i-init : goal.loop-i-init
loop-i-init c = (c.least-n.ensures, start _ _ _)

pub loop-i-preserved : goal.loop-i-preserved
loop-i-preserved c =
    let l = c in
    let a = c.args in
    (l.loop-i.invariant.0, turn l.loop-i.invariant.1 (places.not_go a.a.now l.loop-i.i (omega (arith, l.loop-i.invariant.0))) c.not3.ensures)

pub shape_of-out : goal.shape_of-out
shape_of-out c = c.loop-i.invariant.1.long

pub returns : goal.returns
returns c =
    let a = c.args in
    done (length a.a.now) c.loop-i.invariant.1 (omega (arith, c.loop-i.invariant.0)) (places.not_end a.a.now c.loop-i.i)
