use Rattle.printing.proofs.Whole.{counts}
use native.Mathlib.Omega.{arith}
use Rattle.netlist.specs.Good.{netlist_in}
use Rattle.printing.proofs.good.count_good.Goals as goal

pub returns : goal.returns
returns c = let a = c.args in counts (netlist_in a.rows.now a.strings.now a.bits.now) c.put_good.ensures (omega (arith, c.put_good.type_inv))
