-- A walk over cell rows: each begins in the pools where those before it end, what it has is there, and it keeps the rules.
use Rattle.std.specs.Prelude.{ℕ, zero, suc, ◌+◌, ◌*◌, Bool, ◌&&◌, ◌||◌, List, leb, eqb, drop, Option, Some, None}
use Rattle.ground.specs.Choice.{pick}
use Rattle.ground.specs.Regions.{blank}
use Rattle.kinds.specs.Kinds.{kind_at, is_kind, output_kind}
use Rattle.netlist.specs.View.{word}
use Rattle.pools.specs.Lying.{lies}
use Rattle.checkcells.specs.Runs.{operand_walk}

-- "Input names aren't empty", outputs' neither; "strings of 255 decoded bytes"
abbrev pub cell_named : ℕ → ℕ → Bool
cell_named kind size = pick (kind_at kind).named (leb 1 size && leb size 255) (eqb size 0)

-- its name, its metadata among so many rows, and runs for the operands that its kind has
abbrev pub cell_head : ℕ → ℕ → List ℕ → Bool
cell_head metas kind row =
    (cell_named kind (word row 3) && leb (word row 4) metas)
    && ((leb 1 (kind_at kind).operands || eqb (word row 6) 0)
    && ((leb 2 (kind_at kind).operands || eqb (word row 7) 0) && (leb 3 (kind_at kind).operands || eqb (word row 8) 0)))

-- the next string and the next run lie at s and r
abbrev pub cell_placed : ℕ → ℕ → List ℕ → Bool
cell_placed s r row = lies s 16384 (word row 2) (word row 3) && lies r 4096 (word row 5) (word row 6 + (word row 7 + word row 8))

-- what follows an operand that is right
abbrev pub and_then : Option (ℕ × ℕ) → (ℕ → ℕ → Option (ℕ × ℕ × ℕ × ℕ)) → Option (ℕ × ℕ × ℕ × ℕ)
and_then None f = None
and_then (Some (w, e)) f = f w e

-- the operands, of a, b and c runs, where e trits lie before them
unfoldable pub operands_walk : List ℕ → List ℕ → List ℕ → ℕ → ℕ → ℕ → ℕ → ℕ → Option (ℕ × ℕ × ℕ × ℕ)
operands_walk ws bits runs first e a b c =
    and_then (operand_walk ws bits runs first e 0 a) (λ x f.
    and_then (operand_walk ws bits runs (first + a) f 0 b) (λ y g.
    and_then (operand_walk ws bits runs (first + a + b) g 0 c) (λ z h. Some (x, y, z, h))))

-- widths that can be added up
abbrev pub first_of : Option (ℕ × ℕ × ℕ × ℕ) → ℕ
first_of None = 0
first_of (Some (x, y, z, e)) = x

abbrev pub end_of : Option (ℕ × ℕ × ℕ × ℕ) → ℕ
end_of None = 0
end_of (Some (x, y, z, e)) = e

-- RULE 13 counts the bits of outputs
abbrev pub out_width : ℕ → ℕ → ℕ
out_width kind a = pick (eqb kind output_kind) a 0

-- RULE 12: the width rule of the kind
abbrev pub judged : ℕ → ℕ → Option (ℕ × ℕ × ℕ × ℕ) → Option (ℕ × ℕ)
judged kind width None = None
judged kind width (Some (x, y, z, e)) = pick ((kind_at kind).widths width x y z) (Some (out_width kind x, e)) None

abbrev pub out_of : Option (ℕ × ℕ) → ℕ
out_of None = 0
out_of (Some (out, e)) = out

abbrev pub trits_of : Option (ℕ × ℕ) → ℕ
trits_of None = 0
trits_of (Some (out, e)) = e

-- a cell row, behind s string bytes, r runs and b trits
unfoldable pub cell_good : List ℕ → List ℕ → List ℕ → ℕ → ℕ → ℕ → ℕ → List ℕ → Option (ℕ × ℕ)
cell_good ws bits runs metas s r b row =
    pick (is_kind (word row 0))
    (pick (cell_placed s r row && cell_head metas (word row 0) row)
    (judged (word row 0) (word row 1) (operands_walk ws bits runs r b (word row 6) (word row 7) (word row 8)))
    None)
    None

-- the rows from the row i on, of which so many are left; d and o are the sums of widths and of output bits so far
unfoldable pub cells_walk : List ℕ → List ℕ → List ℕ → ℕ → List ℕ → ℕ → ℕ → ℕ → ℕ → ℕ → ℕ → ℕ → Option (ℕ × ℕ × ℕ × ℕ × ℕ)
cells_walk ws bits runs metas rows i s r b d o zero = pick (blank (drop (i * 9) rows)) (Some (s, r, b, d, o)) None
cells_walk ws bits runs metas rows i s r b d o (suc left) =
    elim (cell_good ws bits runs metas s r b (drop (i * 9) rows)) [
      | None ↦ None
      | Some (out, e) ↦ cells_walk ws bits runs metas rows (i + 1) (s + word (drop (i * 9) rows) 3) (r + (word (drop (i * 9) rows) 6 + (word (drop (i * 9) rows) 7 + word (drop (i * 9) rows) 8))) e (d + word (drop (i * 9) rows) 1) (o + out) left
    ]

abbrev pub runs_upto : Option (ℕ × ℕ × ℕ × ℕ × ℕ) → ℕ
runs_upto None = 0
runs_upto (Some (s, r, b, d, o)) = r
