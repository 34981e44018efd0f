use mathlib.Core.Path.{refl}
use native.Mathlib.Omega.{arith}
use lib.ListN.{length}
use Rattle.cells.proofs.Filling.{start, turn, done}
use Rattle.ground.proofs.Rest.{rest_cons, rest_end}
use Rattle.cellvalues.proofs.lent.copy.Goals as goal

pub loop-i-init : goal.loop-i-init
loop-i-init c = (c.least-n.ensures, start _ _ _)

pub loop-i-preserved : goal.loop-i-preserved
loop-i-preserved c =
    let l = c in
    let a = c.args in
    (l.loop-i.invariant.0, turn l.loop-i.invariant.1 (rest_cons a.a.now l.loop-i.i (omega (arith, l.loop-i.invariant.0))) refl)

pub shape_of-out : goal.shape_of-out
shape_of-out c = c.loop-i.invariant.1.long

pub returns : goal.returns
returns c =
    let a = c.args in
    done (length a.a.now) c.loop-i.invariant.1 (omega (arith, c.loop-i.invariant.0)) (rest_end a.a.now c.loop-i.i)
