-- The numbers of cells in the canonical text.
use Rattle.std.specs.Prelude.{ℕ, zero, suc, ◌+◌, Bool, List, [], ◌∷◌, leb, eqb, drop, get_or}
use Rattle.ground.specs.Choice.{pick}
use Rattle.netlist.specs.Netlist.{Cell}

-- "a cell's number is the sum over earlier cells of the greater of 1 and its width"
unfoldable pub numbers_from : ℕ → List Cell → List ℕ
numbers_from n [] = []
numbers_from n (c ∷ cs) = n ∷ numbers_from (n + pick (eqb c.width 0) 1 c.width) cs

-- the numbers by the widths alone, which a table of cells holds in the second word of each row
unfoldable pub numbers_by : ℕ → List ℕ → List ℕ
numbers_by n [] = []
numbers_by n (w ∷ ws) = n ∷ numbers_by (n + pick (eqb w 0) 1 w) ws

unfoldable pub row_widths : ℕ → List ℕ → List ℕ
row_widths zero rows = []
row_widths (suc n) rows = get_or rows 1 0 ∷ row_widths n (drop 9 rows)

-- a width that the limit of 4,096 declared bits allows
abbrev pub narrow : ℕ → Bool
narrow w = leb w 4096
