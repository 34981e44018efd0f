-- The settled setting worked out: inputs first, then cell after cell in the order of placing.
use Rattle.std.specs.Prelude.{ℕ, List, [], ◌∷◌, eqb}
use Rattle.ground.specs.Choice.{pick}
use Rattle.ground.specs.Lists.{updated}
use Rattle.kinds.specs.Kinds.{input_kind}
use Rattle.netlist.specs.Netlist.{Netlist}
use Rattle.placing.specs.Placing.{cell_at, placing_of, outputs_from}
use Rattle.evaluating.specs.Settled.{Setting, rule_of}

unfoldable pub values_from : List ℕ → Netlist → List ℕ → Setting → Setting
values_from [] N ins v = v
values_from (row ∷ rows) N ins v = values_from rows N ins (updated v row (rule_of N ins v row))

-- the inputs' bits, and nothing else yet
unfoldable pub assigned : Netlist → List ℕ → Setting
assigned N ins row = pick (eqb (cell_at N row).kind input_kind) (rule_of N ins (λ j. []) row) []

unfoldable pub evaluation : Netlist → List ℕ → List ℕ
evaluation N ins = outputs_from (values_from (placing_of N) N ins (assigned N ins)) N
