use Prim.Native.Nat.{◌+◌, ◌-◌, ◌*◌}
use mathlib.Core.Path.{refl, ◌∙◌}
use native.Mathlib.Omega.{arith}
use lib.ListN.{take, drop}
use Rattle.lines.specs.Pools.{pools}
use Rattle.lines.proofs.Rows.{slice_row, slice_length, metas_start, metas_turn, metas_end}
use Rattle.metalines.proofs.put_metas.Goals as goal

pub loop-i-init : goal.loop-i-init
loop-i-init c = (refl, metas_start _ _ _ _ _)

pub put_meta-n-requires : goal.put_meta-n-requires
put_meta-n-requires c = (slice_length c.args.rows.now (c.wide-k.result * 16) 16 (omega (arith, c.wide-k.ensures.0, c.loop-i-test.true, c.requires.1)), c.requires.2)

pub loop-i-preserved : goal.loop-i-preserved
loop-i-preserved c = let a = c.args in let p = c.loop-i in let e = c.wide-k.ensures.0 in let x = c.wide-k.result * 16 in
    (c.put_meta-n.auto.room ∙ p.invariant.0, metas_turn (pools a.strings.now a.members.now a.trits.now) a.count p.i a.rows.now (take (x + 16 - x) (drop x a.rows.now)) c.loop-i-test.true (rw e (slice_row a.rows.now (p.i * 16) 16)) p.invariant.1 c.put_meta-n.ensures)

pub returns : goal.returns
returns c = metas_end _ _ _ _ c.loop-i-test.false c.loop-i.invariant.1
