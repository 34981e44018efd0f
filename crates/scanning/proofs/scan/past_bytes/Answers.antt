use Prim.Native.Nat.{◌-◌}
use mathlib.Core.List.{[]}
use mathlib.Core.Path.{refl}
use native.Mathlib.Omega.{arith}
use lib.ListN.{get_or}
use Rattle.scanning.proofs.Plain.{skip_none, skip_more, plain_tail}
use Rattle.scanning.proofs.scan.past_bytes.Goals as goal

pub loop-i-init : goal.loop-i-init
loop-i-init c = skip_none c.args.text.now [] c.args.start c.requires

pub returns-then-b-lt14 : goal.returns-then-b-lt14
returns-then-b-lt14 c = c.loop-i.invariant

pub returns-then-b-gt127 : goal.returns-then-b-gt127
returns-then-b-gt127 c = c.loop-i.invariant

pub loop-i-preserved : goal.loop-i-preserved
loop-i-preserved c =
    let p = c in
    let a = p.args in
    let e = plain_tail (get_or a.text.now p.loop-i.i 0) (omega arith) (λ e. omega arith) in
    skip_more a.text.now a.start p.loop-i.i _ p.loop-i.invariant c.loop-i-test.true e refl

pub returns : goal.returns
returns c = c.loop-i.invariant
