-- All that a caller sees after a printing: the answer and every byte of the room. 1, 15, then 24.
use Rattle.ground.specs.declared.Refusal.{Refusal}
use Rattle.std.specs.Prelude.{ℕ, List, ltb, length, Result, Ok, Err}
use Rattle.ground.specs.Choice.{pick}
use Rattle.ground.specs.Refusals.{at, refusal}
use Rattle.ground.specs.Regions.{over}
use Rattle.netlist.specs.Good.{check_of, netlist_in}
use Rattle.lines.specs.Lines.{canonical}

pub record Outcome : Type 0 where
  pub answer : Result ℕ Refusal
  pub room : List ℕ

abbrev pub made : Result ℕ Refusal → List ℕ → Outcome
made answer room = record { answer = answer; room = room }

-- 24: "answer room shorter than the answer"; "Room past an answer is unchanged"
unfoldable pub written : List ℕ → List ℕ → Outcome
written text room =
    pick (ltb (length room) (length text)) (made (Err (refusal 24 (at 0))) room)
    (made (Ok (length text)) (over (length text) text room))

abbrev after : Result (Unit {0}) Refusal → List ℕ → Outcome → Outcome
after (Ok tt) room o = o
after (Err g) room o = made (Err g) room

-- THE OUTCOME OF PRINTING
unfoldable pub print_of : List ℕ → List ℕ → List ℕ → List ℕ → Outcome
print_of rows strings bits room =
    after (check_of rows strings bits) room (written (canonical (netlist_in rows strings bits)) room)
