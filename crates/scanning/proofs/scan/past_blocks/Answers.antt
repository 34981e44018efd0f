use Prim.Native.Nat.{◌-◌}
use mathlib.Core.List.{[]}
use Rattle.scanning.proofs.Plain.{skip_none, skip_both}
use Rattle.scanning.proofs.scan.past_blocks.Goals as goal

pub loop-i-init : goal.loop-i-init
loop-i-init c = skip_none c.args.text.now [] c.args.start c.requires

pub returns-then-odd_ahead-ne0 : goal.returns-then-odd_ahead-ne0
returns-then-odd_ahead-ne0 c = c.loop-i.invariant

pub loop-i-preserved : goal.loop-i-preserved
loop-i-preserved c = skip_both c.loop-i.invariant (c.odd_ahead.ensures c.if-odd_ahead-ne0.false)

pub returns : goal.returns
returns c = c.loop-i.invariant
