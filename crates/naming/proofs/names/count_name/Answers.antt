use native.Mathlib.Omega.{arith}
use Rattle.naming.specs.Rows.{name_at}
use Rattle.naming.proofs.Laws.{counts}
use Rattle.naming.proofs.names.count_name.Goals as goal

pub returns : goal.returns
returns c = let a = c.args in counts (name_at a.row a.metas.now a.strings.now a.row) c.put_name.ensures (omega (arith, c.put_name.type_inv))
