-- What an evaluation answers, once it is known whether there is a ring, whether the assignment fits, and what the output bits are.
use Rattle.ground.specs.declared.Refusal.{Refusal}
use Rattle.std.specs.Prelude.{ℕ, ◌≡◌, Bool, not, List, ltb, length, Result, Ok}
use Rattle.ground.specs.Choice.{pick}
use Rattle.ground.specs.Regions.{over}
use Rattle.loadlist.specs.Run.{assigns}
use Rattle.cells.specs.Held.{held_runs}
use Rattle.placing.specs.InTables.{order_in, ring_in}
use Rattle.assigning.specs.Rows.{input_in, rows_total}
use Rattle.evaluating.specs.InTables.{evaluation_in}
use Rattle.evaluating.specs.Outcome.{Outcome, made, cleared, refused}

-- 24, or the bits
abbrev pub given : List ℕ → List ℕ → List ℕ → Outcome
given bits outs work =
    pick (ltb (length outs) (length bits)) (refused 24 outs work)
    (made (Ok (length bits)) (over (length bits) bits outs) (cleared work))

-- 20, 23, 24, or the bits
abbrev pub answered : Bool → Bool → List ℕ → List ℕ → List ℕ → Outcome
answered ring fits bits outs work = pick ring (refused 20 outs work) (pick (not fits) (refused 23 outs work) (given bits outs work))

-- the same of the answer and the room alone, whatever the work space
pub record Given (bits outs : List ℕ) (r : Result ℕ Refusal) (outs' : List ℕ) : Type 0 where
  pub is : (work : List ℕ) → made r outs' (cleared work) ≡ given bits outs work

-- an outcome that the words of tables say
pub record Answers (cells runs trits : List ℕ) (n : ℕ) (ins outs work : List ℕ) (o : Outcome) : Type 0 where
  pub is : o
      ≡ answered (ring_in cells runs n) (assigns (rows_total input_in n cells) ins) (evaluation_in cells (held_runs runs trits) n (order_in cells runs n) ins) outs work
