use mathlib.Core.Path.{refl}
use native.Mathlib.Omega.{arith}
use Rattle.cells.proofs.Filling.{start, turn, done}
use Rattle.cells.proofs.Places as places
use Rattle.cellvalues.proofs.lent.put_x.Goals as goal

pub loop-i-init : goal.loop-i-init
loop-i-init c = (c.least-n.ensures, rw (places.x_all c.args.size) (start _ _ _))

pub loop-i-preserved : goal.loop-i-preserved
loop-i-preserved c =
    let l = c in
    let a = c.args in
    (l.loop-i.invariant.0, turn l.loop-i.invariant.1 (places.x_go a.size l.loop-i.i (omega (arith, l.loop-i.invariant.0))) refl)

pub shape_of-out : goal.shape_of-out
shape_of-out c = c.loop-i.invariant.1.long

pub returns : goal.returns
returns c =
    let a = c.args in
    done a.size c.loop-i.invariant.1 (omega (arith, c.loop-i.invariant.0)) (places.x_end a.size c.loop-i.i)
