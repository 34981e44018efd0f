-- What a translation answers, once it is known whether there is a ring, how many records there are, and what they are.
use Rattle.ground.specs.declared.Refusal.{Refusal}
use Rattle.std.specs.Prelude.{ℕ, ◌+◌, ◌*◌, ◌≡◌, Bool, List, ltb, length, Result, Ok}
use Rattle.ground.specs.Choice.{pick}
use Rattle.ground.specs.Regions.{over}
use Rattle.loadlist.specs.Records.{list_bytes}
use Rattle.loadlist.specs.declared.Record.{Record}
use Rattle.cells.specs.Held.{held_runs}
use Rattle.placing.specs.InTables.{order_in, ring_in}
use Rattle.assigning.specs.Rows.{rows_total}
use Rattle.translating.specs.InTables.{row_sum, translation_in}
use Rattle.translating.specs.Outcome.{Outcome, made, cleared, refused}

-- 21, 24, or the records
abbrev pub given : ℕ → List Record → List ℕ → List ℕ → Outcome
given sum rs room work =
    pick (ltb 8192 sum) (refused 21 room work)
    (pick (ltb (length room) (8 * sum)) (refused 24 room work)
    (made (Ok sum) (over (8 * sum) (list_bytes rs) room) (cleared work)))

-- 20, 21, 24, or the records
abbrev pub answered : Bool → ℕ → List Record → List ℕ → List ℕ → Outcome
answered ring sum rs room work = pick ring (refused 20 room work) (given sum rs room work)

-- the same of the answer and the room alone, whatever the work space
pub record Given (sum : ℕ) (rs : List Record) (room : List ℕ) (r : Result ℕ Refusal) (room' : List ℕ) : Type 0 where
  pub is : (work : List ℕ) → made r room' (cleared work) ≡ given sum rs room work

-- the answer by the words of tables
pub record Answers (cells runs trits : List ℕ) (n : ℕ) (room work : List ℕ) (r : Result ℕ Refusal) (room' work' : List ℕ) : Type 0 where
  pub is : made r room' work' ≡ answered (ring_in cells runs n) (3 + rows_total (row_sum (held_runs runs trits)) n cells) (translation_in cells (held_runs runs trits) n (order_in cells runs n)) room work
