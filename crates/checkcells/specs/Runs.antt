-- A walk over the run rows of an operand: each constant begins in the pool of trits where those before it end, each run keeps the
-- rules, and no two neighbours are one run.
use Rattle.std.specs.Prelude.{ℕ, zero, suc, ◌+◌, ◌-◌, ◌*◌, Bool, true, false, not, ◌&&◌, ◌||◌, List, [], ◌∷◌, leb, eqb, drop, Option, Some, None}
use Rattle.ground.specs.Choice.{pick}
use Rattle.ground.specs.Lists.{every}
use Rattle.ground.specs.Regions.{part}
use Rattle.netlist.specs.Rules.{is_trit, resolves}
use Rattle.netlist.specs.View.{word}
use Rattle.pools.specs.Lying.{lies}

-- the widths of the first n cell rows
unfoldable pub widths_in : ℕ → List ℕ → List ℕ
widths_in zero rows = []
widths_in (suc n) rows = word rows 1 ∷ widths_in n (drop 9 rows)

-- RULE 14, and "operands are 1 to 256 wide": a run has a width; its trits are the next of the pool, or its piece resolves
abbrev pub run_good : List ℕ → List ℕ → ℕ → List ℕ → Bool
run_good widths bits b row =
    leb 1 (word row 2)
    && pick (eqb (word row 0) 0) (lies b 262656 (word row 1) (word row 2) && every is_trit (part b (word row 2) bits))
    (resolves widths (word row 0 - 1) (word row 1) (word row 2))

-- "longest runs: constant bits, or falling consecutive bits of one cell": the first run goes on where the second begins
abbrev pub joins_next : List ℕ → Bool
joins_next row =
    pick (eqb (word row 0) 0) (eqb (word row 3) 0)
    (pick (eqb (word row 3) 0) false
    (eqb (word row 0) (word row 3) && eqb (word row 1) (word row 4 + word row 5)))

-- a run that stands before so many more
unfoldable pub head_good : List ℕ → List ℕ → ℕ → ℕ → List ℕ → Bool
head_good widths bits b more row = run_good widths bits b row && (eqb more 0 || not (joins_next row))

abbrev pub run_trits : List ℕ → ℕ
run_trits row = pick (eqb (word row 0) 0) (word row 2) 0

-- so many runs from the run r on; b trits and w bits lie before them
unfoldable pub operand_walk : List ℕ → List ℕ → List ℕ → ℕ → ℕ → ℕ → ℕ → Option (ℕ × ℕ)
operand_walk widths bits runs r b w zero = Some (w, b)
operand_walk widths bits runs r b w (suc left) =
    elim (head_good widths bits b left (drop (r * 3) runs)) [
      | true ↦ operand_walk widths bits runs (r + 1) (b + run_trits (drop (r * 3) runs)) (w + word (drop (r * 3) runs) 2) left
      | false ↦ None
    ]

abbrev pub wide_of : Option (ℕ × ℕ) → ℕ
wide_of None = 0
wide_of (Some (w, b)) = w

abbrev pub end_of : Option (ℕ × ℕ) → ℕ
end_of None = 0
end_of (Some (w, b)) = b
