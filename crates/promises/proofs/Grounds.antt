-- REFUSED EXACTLY ON THE GROUNDS NAMED: each number that the check of tables, printing, evaluation, translation, the check of a list and the
-- run tell, with what then holds and what the refusal leaves in lent memory. Document 01: "Others: by number, where they apply": each ground
-- here says that none before it holds; so each number is told where its ground is, and nowhere else. "Each other refusal changes no lent
-- byte outside work space .. Work space is zero after every call but one refused 1 (unchanged)".
-- Assumes nothing.
use Rattle.std.specs.Prelude.{Result, Ok, Err}
use mathlib.Core.Path.{◌≡◌, refl, ap, ◌∙◌, sym, subst}
use mathlib.Core.Bool.{Bool, true, false, not, ◌||◌}
use mathlib.Core.List.{List}
use mathlib.Core.Option.{Option, none, some}
use Prim.Native.Nat.{ℕ, ◌*◌}
use native.Mathlib.Omega.{arith}
use lib.Dec.{ltb}
use lib.ListN.{length}
use Rattle.ground.specs.Choice.{pick}
use Rattle.ground.specs.Refusals.{at, refusal}
use Rattle.ground.specs.Regions.{zeros, over}
use Rattle.ground.specs.declared.Refusal.{Refusal}
use Rattle.ground.proofs.Bools.{bool_cases}
use Rattle.netlist.specs.Netlist.{Netlist}
use Rattle.netlist.specs.Tables.{tables_in}
use Rattle.netlist.specs.Good.{short, good, check_of, netlist_in}
use Rattle.lines.specs.Lines.{canonical}
use Rattle.printing.specs.Outcome as printing
use Rattle.loadlist.specs.Records.{input_op}
use Rattle.loadlist.specs.Check.{records, records_with, bad_record, listed_of}
use Rattle.loadlist.specs.Run.{outputs, assigns}
use Rattle.loadlist.specs.Run as run
use Rattle.placing.specs.Placing.{input_bits, ringed}
use Rattle.evaluating.specs.Evaluation.{evaluation}
use Rattle.evaluating.specs.Outcome as evaluating
use Rattle.translating.specs.Outcome as translating
use Rattle.translating.specs.Translation.{record_sum}

-- room as it was; the work space as it was where a lent slice is too short (1), else zero
pub record Left (isShort : Bool) (room room' work work' : List ℕ) : Type 0 where
  pub room_kept : room' ≡ room
  pub work_told : work' ≡ pick isShort work (over 8192 (zeros 8192) work)

-- TRANSLATION: 1, 15, 20, 21, 24
pub data Untranslated (rows strings bits room work : List ℕ) : Refusal → Type 0 where
  lent_short_lem : short rows strings bits || ltb (length work) 8192 ≡ true → Untranslated rows strings bits room work (refusal 1 (at 0))
  not_good : short rows strings bits || ltb (length work) 8192 ≡ false → good (tables_in rows strings bits) ≡ false → Untranslated rows strings bits room work (refusal 15 (at 0))
  in_ring : short rows strings bits || ltb (length work) 8192 ≡ false → good (tables_in rows strings bits) ≡ true → ringed (netlist_in rows strings bits) ≡ true
      → Untranslated rows strings bits room work (refusal 20 (at 0))
  too_many : short rows strings bits || ltb (length work) 8192 ≡ false → good (tables_in rows strings bits) ≡ true → ringed (netlist_in rows strings bits) ≡ false
      → ltb 8192 (record_sum (netlist_in rows strings bits)) ≡ true → Untranslated rows strings bits room work (refusal 21 (at 0))
  no_room : short rows strings bits || ltb (length work) 8192 ≡ false → good (tables_in rows strings bits) ≡ true → ringed (netlist_in rows strings bits) ≡ false
      → ltb 8192 (record_sum (netlist_in rows strings bits)) ≡ false → ltb (length room) (8 * record_sum (netlist_in rows strings bits)) ≡ true
      → Untranslated rows strings bits room work (refusal 24 (at 0))

abbrev told_translated : Result ℕ Refusal → Refusal
told_translated (Err g) = g
told_translated (Ok n) = refusal 0 (at 0)

module _ (rows strings bits room work : List ℕ) (g : Refusal) where
  translated_by : (h : Refusal) → ◌≡◌ {A = Result ℕ Refusal} (Err h) (Err g) → Untranslated rows strings bits room work h → Untranslated rows strings bits room work g
  translated_by h e u = subst (λ (q : Refusal). Untranslated rows strings bits room work q) (ap told_translated e) u

  pub translation_refused : (translating.translate_of rows strings bits room work).answer ≡ Err g
      → Untranslated rows strings bits room work g
      × Left (short rows strings bits || ltb (length work) 8192) room (translating.translate_of rows strings bits room work).room work (translating.translate_of rows strings bits room work).work
  unfolding translating.translate_of
  translation_refused e =
      bool_cases (short rows strings bits || ltb (length work) 8192)
      (λ a. (translated_by (refusal 1 (at 0)) (rw a at e) (lent_short_lem a), record { room_kept = rw a; work_told = rw a }))
      (λ a. bool_cases (good (tables_in rows strings bits))
      (λ b. bool_cases (ringed (netlist_in rows strings bits))
      (λ c. (translated_by (refusal 20 (at 0)) (rw (a, b, c) at e) (in_ring a b c), record { room_kept = rw (a, b, c); work_told = rw (a, b, c) }))
      (λ c. bool_cases (ltb 8192 (record_sum (netlist_in rows strings bits)))
      (λ d. (translated_by (refusal 21 (at 0)) (rw (a, b, c, d) at e) (too_many a b c d), record { room_kept = rw (a, b, c, d); work_told = rw (a, b, c, d) }))
      (λ d. bool_cases (ltb (length room) (8 * record_sum (netlist_in rows strings bits)))
      (λ f. (translated_by (refusal 24 (at 0)) (rw (a, b, c, d, f) at e) (no_room a b c d f), record { room_kept = rw (a, b, c, d, f); work_told = rw (a, b, c, d, f) }))
      (λ f. let z : ◌≡◌ {A = ℕ} 0 1 = cc (rw (a, b, c, d, f) at e) in absurd (omega arith)))))
      (λ b. (translated_by (refusal 15 (at 0)) (rw (a, b) at e) (not_good a b), record { room_kept = rw (a, b); work_told = rw (a, b) })))

module _ (rows strings bits room work : List ℕ) where
  pub translation_told : {g : Refusal} → Untranslated rows strings bits room work g → (translating.translate_of rows strings bits room work).answer ≡ Err g
  unfolding translating.translate_of
  translation_told (lent_short_lem a) = rw a
  translation_told (not_good a b) = rw (a, b)
  translation_told (in_ring a b c) = rw (a, b, c)
  translation_told (too_many a b c d) = rw (a, b, c, d)
  translation_told (no_room a b c d f) = rw (a, b, c, d, f)

-- EVALUATION: 1, 15, 20, 23, 24
pub data Unevaluated (rows strings bits ins outs work : List ℕ) : Refusal → Type 0 where
  lent_short_lem : short rows strings bits || ltb (length work) 8192 ≡ true → Unevaluated rows strings bits ins outs work (refusal 1 (at 0))
  not_good : short rows strings bits || ltb (length work) 8192 ≡ false → good (tables_in rows strings bits) ≡ false → Unevaluated rows strings bits ins outs work (refusal 15 (at 0))
  in_ring : short rows strings bits || ltb (length work) 8192 ≡ false → good (tables_in rows strings bits) ≡ true → ringed (netlist_in rows strings bits) ≡ true
      → Unevaluated rows strings bits ins outs work (refusal 20 (at 0))
  unassigned : short rows strings bits || ltb (length work) 8192 ≡ false → good (tables_in rows strings bits) ≡ true → ringed (netlist_in rows strings bits) ≡ false
      → assigns (input_bits (netlist_in rows strings bits)) ins ≡ false → Unevaluated rows strings bits ins outs work (refusal 23 (at 0))
  no_room : short rows strings bits || ltb (length work) 8192 ≡ false → good (tables_in rows strings bits) ≡ true → ringed (netlist_in rows strings bits) ≡ false
      → assigns (input_bits (netlist_in rows strings bits)) ins ≡ true → ltb (length outs) (length (evaluation (netlist_in rows strings bits) ins)) ≡ true
      → Unevaluated rows strings bits ins outs work (refusal 24 (at 0))

abbrev told_evaluated : Result ℕ Refusal → Refusal
told_evaluated (Err g) = g
told_evaluated (Ok n) = refusal 0 (at 0)

module _ (rows strings bits ins outs work : List ℕ) (g : Refusal) where
  evaluated_by : (h : Refusal) → ◌≡◌ {A = Result ℕ Refusal} (Err h) (Err g) → Unevaluated rows strings bits ins outs work h → Unevaluated rows strings bits ins outs work g
  evaluated_by h e u = subst (λ (q : Refusal). Unevaluated rows strings bits ins outs work q) (ap told_evaluated e) u

  pub evaluation_refused : (evaluating.evaluate_of rows strings bits ins outs work).answer ≡ Err g
      → Unevaluated rows strings bits ins outs work g
      × Left (short rows strings bits || ltb (length work) 8192) outs (evaluating.evaluate_of rows strings bits ins outs work).outs work (evaluating.evaluate_of rows strings bits ins outs work).work
  unfolding evaluating.evaluate_of
  evaluation_refused e =
      bool_cases (short rows strings bits || ltb (length work) 8192)
      (λ a. (evaluated_by (refusal 1 (at 0)) (rw a at e) (lent_short_lem a), record { room_kept = rw a; work_told = rw a }))
      (λ a. bool_cases (good (tables_in rows strings bits))
      (λ b. bool_cases (ringed (netlist_in rows strings bits))
      (λ c. (evaluated_by (refusal 20 (at 0)) (rw (a, b, c) at e) (in_ring a b c), record { room_kept = rw (a, b, c); work_told = rw (a, b, c) }))
      (λ c. bool_cases (assigns (input_bits (netlist_in rows strings bits)) ins)
      (λ d. bool_cases (ltb (length outs) (length (evaluation (netlist_in rows strings bits) ins)))
      (λ f. (evaluated_by (refusal 24 (at 0)) (rw (a, b, c, d, f) at e) (no_room a b c d f), record { room_kept = rw (a, b, c, d, f); work_told = rw (a, b, c, d, f) }))
      (λ f. let z : ◌≡◌ {A = ℕ} 0 1 = cc (rw (a, b, c, d, f) at e) in absurd (omega arith)))
      (λ d. (evaluated_by (refusal 23 (at 0)) (rw (a, b, c, d) at e) (unassigned a b c d), record { room_kept = rw (a, b, c, d); work_told = rw (a, b, c, d) }))))
      (λ b. (evaluated_by (refusal 15 (at 0)) (rw (a, b) at e) (not_good a b), record { room_kept = rw (a, b); work_told = rw (a, b) })))

module _ (rows strings bits ins outs work : List ℕ) where
  pub evaluation_told : {g : Refusal} → Unevaluated rows strings bits ins outs work g → (evaluating.evaluate_of rows strings bits ins outs work).answer ≡ Err g
  unfolding evaluating.evaluate_of
  evaluation_told (lent_short_lem a) = rw a
  evaluation_told (not_good a b) = rw (a, b)
  evaluation_told (in_ring a b c) = rw (a, b, c)
  evaluation_told (unassigned a b c d) = rw (a, b, c, d)
  evaluation_told (no_room a b c d f) = rw (a, b, c, d, f)

-- THE RUN of a list: 1, 22 at its first bad record, 23, 24
pub data Unrun (list ins outs work : List ℕ) : Refusal → Type 0 where
  lent_short_lem : ltb (length work) 8192 ≡ true → Unrun list ins outs work (refusal 1 (at 0))
  malformed : (k : ℕ) → ltb (length work) 8192 ≡ false → bad_record list ≡ some k → Unrun list ins outs work (refusal 22 (at k))
  unassigned : ltb (length work) 8192 ≡ false → bad_record list ≡ none → assigns (records_with input_op (records list)) ins ≡ false
      → Unrun list ins outs work (refusal 23 (at 0))
  no_room : ltb (length work) 8192 ≡ false → bad_record list ≡ none → assigns (records_with input_op (records list)) ins ≡ true
      → ltb (length outs) (length (outputs list ins)) ≡ true → Unrun list ins outs work (refusal 24 (at 0))

abbrev told_ran : Result ℕ Refusal → Refusal
told_ran (Err g) = g
told_ran (Ok n) = refusal 0 (at 0)

module _ (list ins outs work : List ℕ) (g : Refusal) where
  ran_by : (h : Refusal) → ◌≡◌ {A = Result ℕ Refusal} (Err h) (Err g) → Unrun list ins outs work h → Unrun list ins outs work g
  ran_by h e u = subst (λ (q : Refusal). Unrun list ins outs work q) (ap told_ran e) u

  of_records : ltb (length work) 8192 ≡ false → (b : Option ℕ) → bad_record list ≡ b → (run.ran_from b list ins outs work).answer ≡ Err g
      → Unrun list ins outs work g × Left false outs (run.ran_from b list ins outs work).outs work (run.ran_from b list ins outs work).work
  of_records a (some k) b e = (ran_by (refusal 22 (at k)) e (malformed k a b), record { room_kept = refl; work_told = refl })
  of_records a none b e =
      bool_cases (assigns (records_with input_op (records list)) ins)
      (λ c. bool_cases (ltb (length outs) (length (outputs list ins)))
      (λ d. (ran_by (refusal 24 (at 0)) (rw (c, d) at e) (no_room a b c d), record { room_kept = rw (c, d); work_told = rw (c, d) }))
      (λ d. let z : ◌≡◌ {A = ℕ} 0 1 = cc (rw (c, d) at e) in absurd (omega arith)))
      (λ c. (ran_by (refusal 23 (at 0)) (rw c at e) (unassigned a b c), record { room_kept = rw c; work_told = rw c }))

  pub run_refused : (run.run_of list ins outs work).answer ≡ Err g
      → Unrun list ins outs work g × Left (ltb (length work) 8192) outs (run.run_of list ins outs work).outs work (run.run_of list ins outs work).work
  unfolding run.run_of
  run_refused e =
      bool_cases (ltb (length work) 8192)
      (λ a. (ran_by (refusal 1 (at 0)) (rw a at e) (lent_short_lem a), record { room_kept = rw a; work_told = rw a }))
      (λ a. let l = of_records a (bad_record list) refl (rw a at e) in (l.0, record { room_kept = rw a l.1.room_kept; work_told = rw a l.1.work_told }))

module _ (list ins outs work : List ℕ) where
  pub run_told : {g : Refusal} → Unrun list ins outs work g → (run.run_of list ins outs work).answer ≡ Err g
  unfolding run.run_of
  run_told (lent_short_lem a) = rw a
  run_told (malformed k a b) = rw (a, b)
  run_told (unassigned a b c) = rw (a, b, c)
  run_told (no_room a b c d) = rw (a, b, c, d)

-- THE CHECK of a list: the place of its first bad record
abbrev place_told : Result (ℕ × ℕ) ℕ → ℕ
place_told (Err k) = k
place_told (Ok (i, o)) = 0

pub list_bad : (list : List ℕ) (k : ℕ) → listed_of list ≡ Err k → bad_record list ≡ some k
unfolding listed_of
list_bad list k e = go (bad_record list) refl
  where
    go : (b : Option ℕ) → bad_record list ≡ b → bad_record list ≡ some k
    go (some j) b = b ∙ ap (λ (l : Result (ℕ × ℕ) ℕ). some (place_told l)) (rw b at e)
    go none b = let z : ◌≡◌ {A = ℕ} 0 1 = cc (rw b at e) in absurd (omega arith)

pub bad_listed : (list : List ℕ) (k : ℕ) → bad_record list ≡ some k → listed_of list ≡ Err k
unfolding listed_of
bad_listed list k b = rw b

-- PRINTING: 1, 15, 24
pub data Unprinted (rows strings bits room : List ℕ) : Refusal → Type 0 where
  lent_short_lem : short rows strings bits ≡ true → Unprinted rows strings bits room (refusal 1 (at 0))
  not_good : short rows strings bits ≡ false → good (tables_in rows strings bits) ≡ false → Unprinted rows strings bits room (refusal 15 (at 0))
  no_room : short rows strings bits ≡ false → good (tables_in rows strings bits) ≡ true → ltb (length room) (length (canonical (netlist_in rows strings bits))) ≡ true
      → Unprinted rows strings bits room (refusal 24 (at 0))

abbrev told_printed : Result ℕ Refusal → Refusal
told_printed (Err g) = g
told_printed (Ok n) = refusal 0 (at 0)

module _ (rows strings bits room : List ℕ) (g : Refusal) where
  printed_by : (h : Refusal) → ◌≡◌ {A = Result ℕ Refusal} (Err h) (Err g) → Unprinted rows strings bits room h → Unprinted rows strings bits room g
  printed_by h e u = subst (λ (q : Refusal). Unprinted rows strings bits room q) (ap told_printed e) u

  pub printing_refused : (printing.print_of rows strings bits room).answer ≡ Err g
      → Unprinted rows strings bits room g × ((printing.print_of rows strings bits room).room ≡ room)
  unfolding printing.print_of printing.written check_of
  printing_refused e =
      bool_cases (short rows strings bits)
      (λ a. (printed_by (refusal 1 (at 0)) (rw a at e) (lent_short_lem a), rw a))
      (λ a. bool_cases (good (tables_in rows strings bits))
      (λ b. bool_cases (ltb (length room) (length (canonical (netlist_in rows strings bits))))
      (λ c. (printed_by (refusal 24 (at 0)) (rw (a, b, c) at e) (no_room a b c), rw (a, b, c)))
      (λ c. let z : ◌≡◌ {A = ℕ} 0 1 = cc (rw (a, b, c) at e) in absurd (omega arith)))
      (λ b. (printed_by (refusal 15 (at 0)) (rw (a, b) at e) (not_good a b), rw (a, b))))

module _ (rows strings bits room : List ℕ) where
  pub printing_told : {g : Refusal} → Unprinted rows strings bits room g → (printing.print_of rows strings bits room).answer ≡ Err g
  unfolding printing.print_of printing.written check_of
  printing_told (lent_short_lem a) = rw a
  printing_told (not_good a b) = rw (a, b)
  printing_told (no_room a b c) = rw (a, b, c)

-- THE CHECK of tables: 1, 15
pub data Unchecked (rows strings bits : List ℕ) : Refusal → Type 0 where
  lent_short_lem : short rows strings bits ≡ true → Unchecked rows strings bits (refusal 1 (at 0))
  not_good : short rows strings bits ≡ false → good (tables_in rows strings bits) ≡ false → Unchecked rows strings bits (refusal 15 (at 0))

abbrev told_checked : Result (Unit {0}) Refusal → Refusal
told_checked (Err g) = g
told_checked (Ok tt) = refusal 0 (at 0)

module _ (rows strings bits : List ℕ) where
  checked_by : (g h : Refusal) → ◌≡◌ {A = Result (Unit {0}) Refusal} (Err h) (Err g) → Unchecked rows strings bits h → Unchecked rows strings bits g
  checked_by g h e u = subst (λ (q : Refusal). Unchecked rows strings bits q) (ap told_checked e) u

  pub check_refused : (g : Refusal) → check_of rows strings bits ≡ Err g → Unchecked rows strings bits g
  unfolding check_of
  check_refused g e =
      bool_cases (short rows strings bits)
      (λ a. checked_by g (refusal 1 (at 0)) (rw a at e) (lent_short_lem a))
      (λ a. bool_cases (good (tables_in rows strings bits))
      (λ b. let z : ◌≡◌ {A = ℕ} 0 1 = cc (rw (a, b) at e) in absurd (omega arith))
      (λ b. checked_by g (refusal 15 (at 0)) (rw (a, b) at e) (not_good a b)))

  pub check_told : {g : Refusal} → Unchecked rows strings bits g → check_of rows strings bits ≡ Err g
  unfolding check_of
  check_told (lent_short_lem a) = rw a
  check_told (not_good a b) = rw (a, b)
