use Prim.Native.Nat.{◌+◌, ◌-◌, ◌*◌}
use mathlib.Core.Path.{refl, ◌∙◌}
use native.Mathlib.Omega.{arith}
use lib.ListN.{take, drop}
use Rattle.lines.specs.Pools.{pools}
use mathlib.Core.List.{[]}
use Rattle.lines.proofs.Rows.{slice_row, slice_length, ios_start, ios_turn, ios_end}
use Rattle.iolines.proofs.put_ios.Goals as goal

pub loop-i-init : goal.loop-i-init
loop-i-init c = (refl, ios_start _ _ _ _ _)

pub put_io-n-requires : goal.put_io-n-requires
put_io-n-requires c = slice_length c.args.rows.now (c.wide-k.result * 3) 3 (omega (arith, c.wide-k.ensures.0, c.loop-i-test.true, c.requires.1))

pub loop-i-preserved : goal.loop-i-preserved
loop-i-preserved c = let a = c.args in let p = c.loop-i in let e = c.wide-k.ensures.0 in let x = c.wide-k.result * 3 in
    (c.put_io-n.auto.room ∙ p.invariant.0, ios_turn (pools a.strings.now [] []) a.count p.i a.rows.now (take (x + 3 - x) (drop x a.rows.now)) c.loop-i-test.true (rw e (slice_row a.rows.now (p.i * 3) 3)) p.invariant.1 c.put_io-n.ensures)

pub returns : goal.returns
returns c = ios_end _ _ _ _ c.loop-i-test.false c.loop-i.invariant.1
