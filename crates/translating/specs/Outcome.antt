-- All that a caller sees after a translation: 1, 15, 20, 21, 24.
use Rattle.ground.specs.declared.Refusal.{Refusal}
use Rattle.std.specs.Prelude.{ℕ, ◌*◌, not, ◌||◌, List, ltb, length, Result, Ok, Err}
use Rattle.ground.specs.Choice.{pick}
use Rattle.ground.specs.Refusals.{at, refusal}
use Rattle.ground.specs.Regions.{zeros, over}
use Rattle.netlist.specs.Netlist.{Netlist}
use Rattle.netlist.specs.Tables.{tables_in}
use Rattle.netlist.specs.Good.{short, good, netlist_in}
use Rattle.loadlist.specs.Records.{list_bytes}
use Rattle.placing.specs.Placing.{ringed}
use Rattle.translating.specs.Translation.{translation, record_sum}

-- the work space, in words
abbrev pub work_length : ℕ
work_length = 8192

pub record Outcome : Type 0 where
  pub answer : Result ℕ Refusal
  pub room : List ℕ
  pub work : List ℕ

abbrev pub made : Result ℕ Refusal → List ℕ → List ℕ → Outcome
made answer room work = record { answer = answer; room = room; work = work }

abbrev pub cleared : List ℕ → List ℕ
cleared work = over work_length (zeros work_length) work

abbrev pub refused : ℕ → List ℕ → List ℕ → Outcome
refused n room work = made (Err (refusal n (at 0))) room (cleared work)

-- 21: "more than 8,192 records"; a record takes 8 bytes of the room
abbrev pub translated_of : Netlist → List ℕ → List ℕ → Outcome
translated_of N room work =
    pick (ringed N) (refused 20 room work)
    (pick (ltb 8192 (record_sum N)) (refused 21 room work)
    (pick (ltb (length room) (8 * record_sum N)) (refused 24 room work)
    (made (Ok (record_sum N)) (over (8 * record_sum N) (list_bytes (translation N)) room) (cleared work))))

-- THE OUTCOME OF A TRANSLATION
unfoldable pub translate_of : List ℕ → List ℕ → List ℕ → List ℕ → List ℕ → Outcome
translate_of rows strings bits room work =
    pick (short rows strings bits || ltb (length work) work_length) (made (Err (refusal 1 (at 0))) room work)
    (pick (not (good (tables_in rows strings bits))) (refused 15 room work)
    (translated_of (netlist_in rows strings bits) room work))
