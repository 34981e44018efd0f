-- THE PROMISES: each demand of the tender in its own words, stated of the definitions that the functions' contracts are equations with.
-- Each is proved by citing; OneAnswer has the determinacy of every entry point, Unread, Grounds and Asked the refusals, EndToEnd what a
-- text comes to.
use Rattle.std.specs.Prelude.{Result, Ok, Err}
use mathlib.Core.Path.{◌≡◌}
use mathlib.Core.Bool.{Bool, true, false, ◌||◌}
use lib.Dec.{ltb}
use mathlib.Core.List.{List, map}
use mathlib.Core.Option.{Option, none, some}
use Prim.Native.Nat.{ℕ, ◌*◌, ◌<◌, ◌≤◌}
use lib.ListN.{length, take}
use Rattle.ground.specs.Regions.{zeros, over, pad}
use Rattle.ground.specs.declared.Refusal.{Refusal}
use Rattle.ground.proofs.Outcome.{any_two}
use Rattle.netlist.specs.Netlist.{Netlist}
use Rattle.netlist.specs.Rules.{valid}
use Rattle.netlist.specs.Tables.{Tables, layout, rows_length, strings_length, bits_length}
use Rattle.netlist.specs.View.{view}
use Rattle.netlist.specs.Good.{good, short, check_of, netlist_in, lookup_of}
use Rattle.netlist.proofs.Laying.{Long, Layout, view_layout, good_is, layout_good}
use Rattle.scanning.specs.Whole.{whole_of}
use Rattle.lexis.specs.Tokens.{token_at, inside_at}
use Rattle.signs.specs.Decoding.{decoded_into}
use Rattle.brackets.specs.Walks.{walk_of, walk_step, tour_at, tour_step}
use Rattle.form.specs.Forms.{form_of}
use Rattle.declaring.specs.Reading.{says, reading}
use Rattle.reading.specs.Outcome.{read_of, made, work_length}
use Rattle.lines.specs.Lines.{canonical}
use Rattle.printing.specs.Outcome.{print_of}
use Rattle.printing.specs.Outcome as print
use Rattle.naming.specs.Names.{is_ident, full_name, name_of}
use Rattle.naming.specs.Names as name
use Rattle.accepting.proofs.Good.{Accepted, accepted_good, says_accepted}
use Rattle.language.specs.Language.{Says}
use Rattle.language.proofs.Exactly.{says_read, read_says}
use Rattle.returning.proofs.RoundTrip.{returns, one_text}
use Rattle.returning.proofs.TablesBack.{printed_return, tables_return, one_table}
use Rattle.loadlist.specs.Records.{list_bytes}
use Rattle.loadlist.specs.Check.{bad_record, listed_of}
use Rattle.loadlist.specs.Run.{slots, assigns, run_of}
use Rattle.loadlist.specs.Run as run
use Rattle.placing.specs.Placing.{Ringed, input_bits, outputs_from, ringed}
use Rattle.placing.proofs.Rings.{ringed_ring, ring_ringed}
use Rattle.evaluating.specs.Settled.{Setting, Settled}
use Rattle.evaluating.specs.Outcome.{evaluate_of}
use Rattle.evaluating.specs.Outcome as evaluate
use Rattle.evaluating.proofs.Settles.{settled, settled_is, settled_unique}
use Rattle.translating.specs.Outcome.{translate_of}
use Rattle.translating.specs.Outcome as translate
use Rattle.translating.specs.Translation.{translation, record_sum}
use Rattle.translating.proofs.Counting.{translation_count}
use Rattle.translating.proofs.Passing.{translation_passes, translation_bytes}
use Rattle.promises.specs.Asking.{Line, answer_to}
use Rattle.promises.specs.Lines.{marked_lines}
use Rattle.promises.proofs.Lines.{lines_hold}
use Rattle.promises.proofs.GoodTables.{text_printed, list_made, list_runs, evaluation_made}
use Rattle.promises.proofs.OneAnswer.{One, whole_one, token_one, inside_one, declaration_one, walk_one, walk_step_one, tour_one, tour_step_one, decode_one, read_one, check_one, lookup_one, print_one, name_one, evaluation_one, translation_one, list_one, run_one}
use Rattle.promises.proofs.Unread.{Unread, read_refused, read_told}
use Rattle.promises.proofs.Grounds.{Left, Unchecked, Unprinted, Unevaluated, Untranslated, Unrun, check_refused, check_told, printing_refused, printing_told, evaluation_refused, evaluation_told, translation_refused, translation_told, list_bad, bad_listed, run_refused, run_told}
use Rattle.promises.proofs.Asked.{Unnamed, Unfound, First, naming_refused, naming_told, name_written, lookup_refused, lookup_told, lookup_first}
use Rattle.promises.proofs.EndToEnd.{Answered, end_to_end}

-- "document 01's good tables": good tables are exactly the layouts of valid netlists, and show the netlist again
pub good_tables : (T : Tables) → Long T → (good T ≡ true → Layout T) × (Layout T → good T ≡ true)
good_tables T l = (good_is T l, layout_good T)

pub shown_again : (N : Netlist) → valid N ≡ true → view (layout N) ≡ N
shown_again = view_layout

-- Demand 2: "Text is accepted exactly when the published Unnamed IR language reference, as document 01 completes and narrows it, allows
-- it, and the tables then hold what it says": the language is stated apart from the order in which reading asks
pub language_read : (text : List ℕ) (N : Netlist) → Says text N → reading text ≡ says N
language_read = says_read

pub read_language : (text : List ℕ) (N : Netlist) → reading text ≡ says N → Says text N
read_language = read_says

-- the reader itself accepts every text of the language, where the lent slices have their lengths
pub language_accepted : (text rows strings bits work : List ℕ) (N : Netlist) → Says text N → short rows strings bits ≡ false → work_length ≤ length work
    → (read_of text rows strings bits work).answer ≡ Ok tt
language_accepted text rows strings bits work N s = says_accepted text rows strings bits work N (says_read text N s)

-- what reading accepts is good, and shows what the text says
pub accepted_tables : (text rows strings bits work : List ℕ) → (read_of text rows strings bits work).answer ≡ Ok tt → Accepted text (read_of text rows strings bits work)
accepted_tables = accepted_good

-- "Printing gives one text for each set of document 01's good tables. Where that text is within the reader's length limit, reading it
-- gives the same tables back": of the netlist
pub text_and_back : (N : Netlist) → valid N ≡ true → length (canonical N) ≤ 65536 → reading (canonical N) ≡ says N
text_and_back = returns

-- .. and of the tables, every word and byte
pub tables_and_back : (rows strings bits : List ℕ) → check_of rows strings bits ≡ Ok tt → (room work : List ℕ) (n : ℕ)
    → (print_of rows strings bits room).answer ≡ Ok n → n ≤ 65536 → work_length ≤ length work
    → read_of (take n (print_of rows strings bits room).room) rows strings bits work ≡ made (Ok tt) rows strings bits (over work_length (zeros work_length) work)
tables_and_back = printed_return

-- .. read into any lent slices of the fixed lengths, whatever they held
pub tables_given_back : (rows strings bits : List ℕ) → check_of rows strings bits ≡ Ok tt → (rows' strings' bits' work : List ℕ)
    → length (canonical (netlist_in rows strings bits)) ≤ 65536 → short rows' strings' bits' ≡ false → work_length ≤ length work
    → read_of (canonical (netlist_in rows strings bits)) rows' strings' bits' work
    ≡ made (Ok tt) (over rows_length (take rows_length rows) rows') (over strings_length (take strings_length strings) strings')
    (over bits_length (take bits_length bits) bits') (over work_length (zeros work_length) work)
tables_given_back = tables_return

-- "Printing gives one text for each set of document 01's good tables": it is printed, wherever the room takes it
pub text_printed_whole : (rows strings bits : List ℕ) → check_of rows strings bits ≡ Ok tt → (room : List ℕ) → length (canonical (netlist_in rows strings bits)) ≤ length room
    → print_of rows strings bits room
    ≡ print.made (Ok (length (canonical (netlist_in rows strings bits)))) (over (length (canonical (netlist_in rows strings bits))) (canonical (netlist_in rows strings bits)) room)
text_printed_whole = text_printed

-- .. and no two good tables have one text
pub one_label : (rows strings bits rows' strings' bits' : List ℕ) → check_of rows strings bits ≡ Ok tt → check_of rows' strings' bits' ≡ Ok tt
    → canonical (netlist_in rows strings bits) ≡ canonical (netlist_in rows' strings' bits')
    → (take rows_length rows ≡ take rows_length rows') × (take strings_length strings ≡ take strings_length strings') × (take bits_length bits ≡ take bits_length bits')
one_label = one_table

-- no two netlists have one text, whatever its length
pub one_netlist : (M N : Netlist) → valid M ≡ true → valid N ≡ true → canonical M ≡ canonical N → M ≡ N
one_netlist = one_text

-- Demand 1: "Every byte sequence gets an answer: a netlist, or a numbered refusal with its place .. and what a refusal leaves in lent
-- memory is fixed": from any bytes to a refusal of a text that says no netlist, all tables zero; or to tables, one text, one list, its
-- run and the evaluation
pub from_any_bytes : (text rows strings bits work : List ℕ) → Answered text rows strings bits work (read_of text rows strings bits work).answer
from_any_bytes = end_to_end

-- .. and it is one answer: the contract of a public function is one equation, and what two outcomes tell and leave that it allows is the same
pub one_answer : {A B : Type 0} (f : A → B) → One f
one_answer f = any_two f

-- of each entry point: on a text,
pub texts_answered : One whole_of
    × ((text : List ℕ) → One (token_at text) × (One (inside_at text) × (One (form_of text) × (One (walk_of text) × (One (walk_step text) × (One (tour_at text) × (One (tour_step text) × ((from : ℕ) → One (decoded_into text from)))))))))
texts_answered = (whole_one, λ text. (token_one text, (inside_one text, (declaration_one text, (walk_one text, (walk_step_one text, (tour_one text, (tour_step_one text, decode_one text))))))))

-- .. with lent tables, and on them,
pub reads_answered : (rows strings bits work : List ℕ) → One (λ (text : List ℕ). read_of text rows strings bits work)
reads_answered = read_one

pub tables_answered : (rows strings bits : List ℕ)
    → ((o p : Result (Unit {0}) Refusal) → o ≡ check_of rows strings bits → p ≡ check_of rows strings bits → o ≡ p)
    × (One (lookup_of rows strings bits) × (One (print_of rows strings bits) × (((row : ℕ) → One (name_of rows strings bits row))
    × (((ins outs : List ℕ) → One (evaluate_of rows strings bits ins outs)) × ((room : List ℕ) → One (translate_of rows strings bits room))))))
tables_answered rows strings bits =
    (check_one rows strings bits, (lookup_one rows strings bits, (print_one rows strings bits, (name_one rows strings bits, (evaluation_one rows strings bits, translation_one rows strings bits)))))

-- .. and on load lists and bench values
pub lists_answered : One listed_of × ((ins outs work : List ℕ) → One (λ (list : List ℕ). run_of list ins outs work))
lists_answered = (list_one, run_one)

-- "This holds for lent tables, load lists and bench values as well as for text": each number is told exactly where its ground holds and none
-- before it; ".. and what a refusal leaves in lent memory is fixed": rooms are as they were, work space is zero, or as it was after 1
pub reading_grounds : (text rows strings bits work : List ℕ) (g : Refusal)
    → ((read_of text rows strings bits work).answer ≡ Err g → Unread text rows strings bits work g)
    × (Unread text rows strings bits work g → (read_of text rows strings bits work).answer ≡ Err g)
reading_grounds text rows strings bits work g = (read_refused text rows strings bits work g, read_told text rows strings bits work)

module _ (rows strings bits : List ℕ) (g : Refusal) where
  pub check_grounds : (check_of rows strings bits ≡ Err g → Unchecked rows strings bits g) × (Unchecked rows strings bits g → check_of rows strings bits ≡ Err g)
  check_grounds = (check_refused rows strings bits g, check_told rows strings bits)

  pub printing_grounds : (room : List ℕ)
      → ((print_of rows strings bits room).answer ≡ Err g → Unprinted rows strings bits room g × ((print_of rows strings bits room).room ≡ room))
      × (Unprinted rows strings bits room g → (print_of rows strings bits room).answer ≡ Err g)
  printing_grounds room = (printing_refused rows strings bits room g, printing_told rows strings bits room)

  pub naming_grounds : (row : ℕ) (room : List ℕ)
      → ((name_of rows strings bits row room).answer ≡ Err g → Unnamed rows strings bits row room g × ((name_of rows strings bits row room).room ≡ room))
      × (Unnamed rows strings bits row room g → (name_of rows strings bits row room).answer ≡ Err g)
  naming_grounds row room = (naming_refused rows strings bits row room g, naming_told rows strings bits row room)

  pub lookup_grounds : (asked : List ℕ)
      → (lookup_of rows strings bits asked ≡ Err g → Unfound rows strings bits asked g) × (Unfound rows strings bits asked g → lookup_of rows strings bits asked ≡ Err g)
  lookup_grounds asked = (lookup_refused rows strings bits asked g, lookup_told rows strings bits asked)

  pub evaluation_grounds : (ins outs work : List ℕ)
      → ((evaluate_of rows strings bits ins outs work).answer ≡ Err g
      → Unevaluated rows strings bits ins outs work g
      × Left (short rows strings bits || ltb (length work) 8192) outs (evaluate_of rows strings bits ins outs work).outs work (evaluate_of rows strings bits ins outs work).work)
      × (Unevaluated rows strings bits ins outs work g → (evaluate_of rows strings bits ins outs work).answer ≡ Err g)
  evaluation_grounds ins outs work = (evaluation_refused rows strings bits ins outs work g, evaluation_told rows strings bits ins outs work)

  -- Demand 3: "Translation is refused only on the grounds named there"
  pub translation_grounds : (room work : List ℕ)
      → ((translate_of rows strings bits room work).answer ≡ Err g
      → Untranslated rows strings bits room work g
      × Left (short rows strings bits || ltb (length work) 8192) room (translate_of rows strings bits room work).room work (translate_of rows strings bits room work).work)
      × (Untranslated rows strings bits room work g → (translate_of rows strings bits room work).answer ≡ Err g)
  translation_grounds room work = (translation_refused rows strings bits room work g, translation_told rows strings bits room work)

pub list_grounds : (list : List ℕ) (k : ℕ) → (listed_of list ≡ Err k → bad_record list ≡ some k) × (bad_record list ≡ some k → listed_of list ≡ Err k)
list_grounds list k = (list_bad list k, bad_listed list k)

pub run_grounds : (list ins outs work : List ℕ) (g : Refusal)
    → ((run_of list ins outs work).answer ≡ Err g
    → Unrun list ins outs work g × Left (ltb (length work) 8192) outs (run_of list ins outs work).outs work (run_of list ins outs work).work)
    × (Unrun list ins outs work g → (run_of list ins outs work).answer ≡ Err g)
run_grounds list ins outs work g = (run_refused list ins outs work g, run_told list ins outs work)

-- Document 01: "The full name of an ident is written parent first": of every ident of good tables, wherever the room takes it
pub name_written_whole : (rows strings bits : List ℕ) (row : ℕ) (room : List ℕ) → check_of rows strings bits ≡ Ok tt → is_ident (netlist_in rows strings bits) row ≡ true
    → length (full_name (netlist_in rows strings bits) row) ≤ length room
    → name_of rows strings bits row room
    ≡ name.made (Ok (length (full_name (netlist_in rows strings bits) row)))
    (over (length (full_name (netlist_in rows strings bits) row)) (full_name (netlist_in rows strings bits) row) room)
name_written_whole = name_written

-- Document 01: "A lookup gives the first I/O row whose name equals the asked one"
pub first_row_found : (rows strings bits asked : List ℕ) (row width : ℕ) → lookup_of rows strings bits asked ≡ Ok (row, width)
    → First (netlist_in rows strings bits).ios asked row width
first_row_found = lookup_first

-- Demand 3: "For every netlist whose cells form no ring and whose list by document 01's sum has at most 8,192 records, translation with
-- enough lent room succeeds", of all good tables, read from a text or not
module _ (rows strings bits : List ℕ) (h : check_of rows strings bits ≡ Ok tt) (free : ringed (netlist_in rows strings bits) ≡ false) where
  pub translation_succeeds : record_sum (netlist_in rows strings bits) ≤ 8192 → (room work : List ℕ) → 8 * record_sum (netlist_in rows strings bits) ≤ length room → 8192 ≤ length work
      → translate_of rows strings bits room work
      ≡ translate.made (Ok (record_sum (netlist_in rows strings bits))) (over (8 * record_sum (netlist_in rows strings bits)) (list_bytes (translation (netlist_in rows strings bits))) room) (translate.cleared work)
  translation_succeeds few room work l long = list_made rows strings bits h room work long free few l

  -- and so does the evaluation, for every setting of the input bits
  pub evaluation_succeeds : (ins : List ℕ) → assigns (input_bits (netlist_in rows strings bits)) ins ≡ true → (u : Setting) → Settled (netlist_in rows strings bits) ins u
      → (outs work : List ℕ) → length (outputs_from u (netlist_in rows strings bits)) ≤ length outs → 8192 ≤ length work
      → evaluate_of rows strings bits ins outs work
      ≡ evaluate.made (Ok (length (outputs_from u (netlist_in rows strings bits))))
      (over (length (outputs_from u (netlist_in rows strings bits))) (outputs_from u (netlist_in rows strings bits)) outs) (evaluate.cleared work)
  evaluation_succeeds = evaluation_made rows strings bits h free

module _ (N : Netlist) (v : valid N ≡ true) where
  -- "whose cells form no ring": 20 is told exactly where a cell is reached from itself
  pub ring_told : (ringed N ≡ true → Ringed N) × (Ringed N → ringed N ≡ true)
  ring_told = (ringed_ring N v, ring_ringed N v)

  module _ (free : ringed N ≡ false) where
    -- "whose list by document 01's sum has at most 8,192 records": the list has 3 plus the table's sum of records, 8 bytes each
    pub list_count : (length (translation N) ≡ record_sum N) × (length (list_bytes (translation N)) ≡ 8 * record_sum N)
    list_count = (translation_count N v free, translation_bytes N v free)

    -- and it passes the check of lists
    pub list_passes : record_sum N ≤ 8192 → bad_record (list_bytes (translation N)) ≡ none
    list_passes = translation_passes N v free

    module _ (ins : List ℕ) where
      -- "the value that the cell rules give the netlist": without a ring there is one setting that every cell's rule keeps, and no other
      pub one_meaning : Settled N ins (settled N v ins free) × ((u w : Setting) → Settled N ins u → Settled N ins w → (row : ℕ) → row < length N.cells → u row ≡ w row)
      one_meaning = (settled_is N v ins free, settled_unique N v ins free)

      -- Demand 3: "For every setting of the input bits to 0, 1 or X, running the list gives at each output bit exactly the value that
      -- the cell rules give the netlist, X included": the run is not refused, tells the number of output bits, and leaves them in the
      -- room and the slots in the work space
      pub list_runs_netlist : record_sum N ≤ 8192 → assigns (input_bits N) ins ≡ true → (u : Setting) → Settled N ins u → (outs work : List ℕ)
          → length (outputs_from u N) ≤ length outs → 8192 ≤ length work
          → run_of (list_bytes (translation N)) ins outs work
          ≡ run.made (Ok (length (outputs_from u N))) (over (length (outputs_from u N)) (outputs_from u N) outs)
          (over 8192 (pad 8192 (slots (list_bytes (translation N)) ins)) work)
      list_runs_netlist few given u s outs work = list_runs N v free few ins given u s outs work

-- "The P cases are proved of the definitions by one statement over a single list"
pub lines_between_yes_and_no : map (λ (l : Line). answer_to l.ask) marked_lines ≡ map (λ (l : Line). l.answer) marked_lines
lines_between_yes_and_no = lines_hold
