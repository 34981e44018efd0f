-- What a worked case asks of the definitions, and the answer to it.
use Rattle.std.specs.Prelude.{ℕ, List, [], ◌∷◌, Result, Ok, Err}
use Rattle.ground.specs.Regions.{zeros}
use Rattle.ground.specs.declared.Refusal.{Refusal}
use Rattle.netlist.specs.Netlist.{Netlist}
use Rattle.netlist.specs.Good.{lookup}
use Rattle.declaring.specs.Reading.{Reading, says, refused, reading}
use Rattle.printing.specs.Outcome as print
use Rattle.lines.specs.Lines.{canonical}
use Rattle.naming.specs.Names as name
use Rattle.loadlist.specs.Check.{listed_of}
use Rattle.loadlist.specs.Run as run
use Rattle.placing.specs.Placing.{cell_at}
use Rattle.evaluating.specs.Outcome as evaluate
use Rattle.translating.specs.Outcome as translate

pub data Ask : Type 0 where
  -- is the text a netlist
  to_read : List ℕ → Ask
  -- its canonical text, into room for so many bytes
  to_print : ℕ → List ℕ → Ask
  -- the name of the cell in a row
  to_show : List ℕ → ℕ → Ask
  -- the full name of a metadata row, into room for so many bytes
  to_name : ℕ → List ℕ → ℕ → Ask
  -- the row and width of an I/O name
  to_find : List ℕ → List ℕ → Ask
  -- the output bits for input bits, into room for so many
  to_evaluate : ℕ → List ℕ → List ℕ → Ask
  -- the load list, into room for so many bytes
  to_translate : ℕ → List ℕ → Ask
  -- the number of records told for that room
  to_count : ℕ → List ℕ → Ask
  -- the numbers of input and output bits of a load list
  to_list : List ℕ → Ask
  -- the output bits of a load list for input bits, into room for so many
  to_run : ℕ → List ℕ → List ℕ → Ask

pub data Answer : Type 0 where
  accepted : Answer
  refused_at : ℕ → ℕ → Answer
  -- the number told, and what stands in the room
  gives : ℕ → List ℕ → Answer
  counts : ℕ → Answer

abbrev pub told : Refusal → Answer
told g = refused_at g.number g.place.at

-- the answer for the netlist that the text says
abbrev pub of_text : (Netlist → Answer) → Reading → Answer
of_text f (says N) = f N
of_text f (refused g) = told g

abbrev printed_answer : Result ℕ Refusal → List ℕ → Answer
printed_answer (Ok n) room = gives n room
printed_answer (Err g) room = told g

abbrev named_answer : Result ℕ Refusal → List ℕ → Answer
named_answer (Ok n) room = gives n room
named_answer (Err g) room = told g

abbrev found_answer : Result (ℕ × ℕ) Refusal → Answer
found_answer (Ok (row, width)) = gives row (width ∷ [])
found_answer (Err g) = told g

abbrev evaluated_answer : Result ℕ Refusal → List ℕ → Answer
evaluated_answer (Ok n) outs = gives n outs
evaluated_answer (Err g) outs = told g

abbrev translated_answer : Result ℕ Refusal → List ℕ → Answer
translated_answer (Ok n) room = gives n room
translated_answer (Err g) room = told g

abbrev count_answer : Result ℕ Refusal → Answer
count_answer (Ok n) = counts n
count_answer (Err g) = told g

-- 22: "load list malformed", at the first bad record
abbrev listed_answer : Result (ℕ × ℕ) ℕ → Answer
listed_answer (Ok (inputs, outputs)) = gives inputs (outputs ∷ [])
listed_answer (Err k) = refused_at 22 k

abbrev ran_answer : Result ℕ Refusal → List ℕ → Answer
ran_answer (Ok n) outs = gives n outs
ran_answer (Err g) outs = told g

unfoldable pub answer_to : Ask → Answer
answer_to (to_read text) = of_text (λ N. accepted) (reading text)
answer_to (to_print room text) = of_text (λ N. let o = print.written (canonical N) (zeros room) in printed_answer o.answer o.room) (reading text)
answer_to (to_show text row) = of_text (λ N. gives row (cell_at N row).name) (reading text)
answer_to (to_name room text row) = of_text (λ N. let o = name.written N row (zeros room) in named_answer o.answer o.room) (reading text)
answer_to (to_find text wanted) = of_text (λ N. found_answer (lookup N wanted)) (reading text)
answer_to (to_evaluate room text ins) = of_text (λ N. let o = evaluate.evaluated_of N ins (zeros room) [] in evaluated_answer o.answer o.outs) (reading text)
answer_to (to_translate room text) = of_text (λ N. let o = translate.translated_of N (zeros room) [] in translated_answer o.answer o.room) (reading text)
answer_to (to_count room text) = of_text (λ N. count_answer (translate.translated_of N (zeros room) []).answer) (reading text)
answer_to (to_list list) = listed_answer (listed_of list)
answer_to (to_run room list ins) = let o = run.run_of list ins (zeros room) (zeros run.work_length) in ran_answer o.answer o.outs

-- a case: what is asked, and the answer
pub record Line : Type 0 where
  pub ask : Ask
  pub answer : Answer

abbrev pub line : Ask → Answer → Line
line q a = record { ask = q; answer = a }
