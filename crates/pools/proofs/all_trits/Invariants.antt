use mathlib.Core.Path.{◌≡◌}
use Prim.Native.Nat.{◌-◌}
use lib.ListN.{length, drop}
use Rattle.ground.specs.Lists.{every}
use Rattle.netlist.specs.Rules.{is_trit}
use Rattle.pools.proofs.all_trits.Given as goal

abbrev pub invariant-loop-i : goal.invariant-loop-i
invariant-loop-i l = every is_trit (drop l.i l.bits) ≡ every is_trit l.bits
