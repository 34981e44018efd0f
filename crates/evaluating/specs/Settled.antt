-- The meaning of a netlist: the setting of all cell bits in which every cell holds what its rule makes of the cells that it reads.
use Rattle.std.specs.Prelude.{ℕ, ◌<◌, ◌≡◌, List, eqb, length}
use Rattle.ground.specs.Choice.{pick}
use Rattle.ground.specs.Regions.{part}
use Rattle.kinds.specs.Kinds.{input_kind}
use Rattle.netlist.specs.Netlist.{Netlist}
use Rattle.cells.specs.Values.{cell_value}
use Rattle.placing.specs.Placing.{cell_at, input_start}

-- the bits of each row, bit 0 first
abbrev pub Setting : Type 0
Setting = ℕ → List ℕ

-- what a row holds: an input what is assigned to it, any other cell its value
abbrev pub rule_of : Netlist → List ℕ → Setting → ℕ → List ℕ
rule_of N ins v row =
    pick (eqb (cell_at N row).kind input_kind) (part (input_start N row) (cell_at N row).width ins)
    (cell_value v (cell_at N row))

-- A SETTLED SETTING keeps every cell's rule
abbrev pub Settled : Netlist → List ℕ → Setting → Type 0
Settled N ins v = (row : ℕ) → row < length N.cells → v row ≡ rule_of N ins v row
