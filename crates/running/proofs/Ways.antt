-- The ways out of a run: what the code leaves on each is what the definition says.
use Rattle.ground.specs.declared.Refusal.{Refusal}
use Rattle.std.specs.Prelude.{Result, Ok, Err}
use mathlib.Core.Path.{◌≡◌, ap, ap₂, sym, ◌∙◌}
use mathlib.Core.Bool.{true, false}
use mathlib.Core.List.{List, [], ◌∷◌, ◌++◌}
use mathlib.Core.Option.{Option, none, some}
use Prim.Native.Nat.{ℕ, ◌+◌, ◌-◌, ◌<◌, ◌≤◌}
use native.Mathlib.Nat.{zero-add}
use native.Mathlib.Omega.{arith}
use lib.Dec.{ltb}
use lib.ListN.{length, take, drop, length-append}
use lib.Seq.{sets}
use borrow.Author.Tests.{lt-ltb, le-ltb, eq-eqb, ne_eqb}
use Rattle.ground.specs.Refusals.{at, refusal}
use Rattle.ground.specs.Regions.{zeros, pad, over}
use Rattle.ground.proofs.Bools.{bool_cases}
use Rattle.ground.proofs.Lent.{over_all, over_front, over_zeros, sets_front}
use Rattle.ground.proofs.Outcome.{any_two}
use Rattle.ground.proofs.Regions.{length_zeros, length_pad}
use Rattle.loadlist.specs.declared.Record.{Record}
use Rattle.loadlist.specs.Records.{records_in, input_op}
use Rattle.loadlist.specs.Check.{record_count, records_with, records, bad_record}
use Rattle.loadlist.specs.Run.{Outcome, made, slot_of, slots_from, outputs_in, slots, outputs, assigns, ran_from, run_of}
use Rattle.loadlist.proofs.Good.{GoodList, few_records, length_records}
use Rattle.running.proofs.Laws.{trits}
use Rattle.running.proofs.Giving.{outputs_front, outputs_number}

pub length_slots : (rs : List Record) (ins acc : List ℕ) → length (slots_from rs ins acc) ≡ length acc + length rs
unfolding slots_from
length_slots [] ins acc = omega arith
length_slots (r ∷ rs) ins acc = length_slots rs ins (acc ++ (slot_of r ins acc ∷ [])) ∙ rw length-append (omega arith)

-- an assignment of another length, or with a byte above 2
pub wrong_length : (n : ℕ) (ins : List ℕ) → (length ins ≡ n → ⊥) → assigns n ins ≡ false
wrong_length n ins h = rw (ne_eqb (length ins) n h)

pub wrong_bit : (n : ℕ) (ins : List ℕ) → length ins ≡ n → trits ins ≡ false → assigns n ins ≡ false
wrong_bit n ins h e = rw (eq-eqb (length ins) n h, e)

-- the run of a good list in clear work space
module _ {list work : List ℕ} {inputs answers : ℕ} (ins outs : List ℕ) (clear : work ≡ zeros 8192) (good : GoodList list inputs answers) where
  whole : (x : List ℕ) → over 8192 x work ≡ x
  whole x = let l : length work ≤ 8192 = rw (clear, length_zeros) (omega arith) in over_all 8192 x work l

  pub unfit : assigns inputs ins ≡ false → made (Err (refusal 23 (at 0))) outs work ≡ ran_from none list ins outs work
  unfit e =
      let f : assigns (records_with input_op (records list)) ins ≡ false = rw (← good.ins) e in
      rw f (ap (λ (w : List ℕ). made (Err (refusal 23 (at 0))) outs w) (clear ∙ sym (whole (zeros 8192))))

  module _ (long : length ins ≡ inputs) (bits : trits ins ≡ true) where
    fit : assigns (records_with input_op (records list)) ins ≡ true
    fit = rw (← good.ins, eq-eqb (length ins) inputs long, bits)

    long_slots : length (slots list ins) ≡ length (records list)
    long_slots = length_slots (records list) ins [] ∙ zero-add (length (records list))

    number : length (outputs list ins) ≡ answers
    number = outputs_number (records list) (slots list ins) long_slots ∙ sym good.outs

    pub no_room : length outs < answers → made (Err (refusal 24 (at 0))) outs work ≡ ran_from none list ins outs work
    no_room h =
        let l : length outs < length (outputs list ins) = rw number h in
        rw (fit, lt-ltb (length outs) (length (outputs list ins)) l)
        (ap (λ (w : List ℕ). made (Err (refusal 24 (at 0))) outs w) (clear ∙ sym (whole (zeros 8192))))

    module _ {n : ℕ} (room : answers ≤ length outs) (count : n ≡ record_count list) where
      pub slots_room : n ≤ length work
      slots_room = let f = few_records list good.all in rw (clear, length_zeros) (omega arith)

      module _ {work' : List ℕ} (slotted : work' ≡ over n (slots_from (records_in n list) ins []) work) where
        held : work' ≡ pad 8192 (slots list ins)
        held =
            let l : n ≡ length (slots list ins) = count ∙ sym (long_slots ∙ length_records (record_count list) list) in
            let s : slots_from (records_in n list) ins [] ≡ slots list ins = ap (λ (m : ℕ). slots_from (records_in m list) ins []) count in
            slotted ∙ ap₂ (λ m x. over m x work) l s ∙ ap (λ (w : List ℕ). over (length (slots list ins)) (slots list ins) w) clear
            ∙ over_zeros 8192 (slots list ins)

        pub slots_held : n ≤ length work'
        slots_held =
            let f = few_records list good.all in
            let l : length (slots list ins) ≤ 8192 = rw (long_slots, length_records (record_count list) list) (omega arith) in
            rw (held, length_pad 8192 (slots list ins) l) (omega arith)

        answer_is : outputs_in (records_in n list) work' ≡ outputs list ins
        unfolding pad
        answer_is =
            ap₂ (λ m w. outputs_in (records_in m list) w) count held
            ∙ outputs_front (records list) (slots list ins) (zeros (8192 - length (slots list ins))) long_slots

        pub answer_count : answers ≡ length (outputs_in (records_in n list) work')
        answer_count = sym (ap length answer_is ∙ number)

        pub ran : {outs' : List ℕ} → outs' ≡ sets outs 0 (outputs_in (records_in n list) work') → made (Ok answers) outs' work' ≡ ran_from none list ins outs work
        ran {outs'} e =
            let l : length (outputs list ins) ≤ length outs = rw number room in
            let o : outs' ≡ over (length (outputs list ins)) (outputs list ins) outs = e ∙ ap (λ (x : List ℕ). sets outs 0 x) answer_is ∙ sets_front outs (outputs list ins) l in
            let w : work' ≡ over 8192 (pad 8192 (slots list ins)) work = held ∙ sym (whole (pad 8192 (slots list ins))) in
            rw (fit, le-ltb (length outs) (length (outputs list ins)) l)
            (ap (λ (m : ℕ). made (Ok m) outs' work') (sym number) ∙ ap₂ (λ x y. made (Ok (length (outputs list ins))) x y) o w)

-- the run in work space of its exact length
module _ (list ins outs work : List ℕ) (long : length work ≡ 8192) where
  pub bad_way : {k : ℕ} {work' : List ℕ} → work' ≡ zeros (length work) → bad_record list ≡ some k
      → made (Err (refusal 22 (at k))) outs work' ≡ ran_from (bad_record list) list ins outs work
  bad_way {k} {work'} c e =
      let w : work' ≡ over 8192 (zeros 8192) work = c ∙ ap zeros long ∙ sym (over_all 8192 (zeros 8192) work (omega arith)) in
      rw e (ap (λ (x : List ℕ). made (Err (refusal 22 (at k))) outs x) w)

  pub good_way : {work' : List ℕ} {o : Outcome} → work' ≡ zeros 8192 → bad_record list ≡ none → o ≡ ran_from none list ins outs work'
      → o ≡ ran_from (bad_record list) list ins outs work
  good_way {work'} {o} c e p =
      let l : length work' ≤ 8192 = rw (c, length_zeros) (omega arith) in
      let all : (x : List ℕ) → over 8192 x work' ≡ over 8192 x work = λ x. over_all 8192 x work' l ∙ sym (over_all 8192 x work (omega arith)) in
      rw e (p ∙ rw (all (zeros 8192), all (pad 8192 (slots list ins))))

-- the run in lent work space
module _ (list ins outs work : List ℕ) where
  pub short : length work < 8192 → made (Err (refusal 1 (at 0))) outs work ≡ run_of list ins outs work
  unfolding run_of
  short h = rw (lt-ltb (length work) 8192 h)

  abbrev behind : Outcome → Outcome
  behind o = made o.answer o.outs (o.work ++ drop 8192 work)

  fronted : (b : Option ℕ) → behind (ran_from b list ins outs (take 8192 work)) ≡ ran_from b list ins outs work
  fronted (some k) = rw (over_front 8192 (zeros 8192) work)
  fronted none =
      bool_cases (assigns (records_with input_op (records list)) ins)
      (λ f. bool_cases (ltb (length outs) (length (outputs list ins)))
      (λ g. rw (f, g, over_front 8192 (zeros 8192) work))
      (λ g. rw (f, g, over_front 8192 (pad 8192 (slots list ins)) work)))
      (λ f. rw (f, over_front 8192 (zeros 8192) work))

  pub whole_way : {r : Result ℕ Refusal} {outs' work' : List ℕ} → 8192 ≤ length work → made r outs' work' ≡ ran_from (bad_record list) list ins outs (take 8192 work)
      → made r outs' (work' ++ drop 8192 work) ≡ run_of list ins outs work
  unfolding run_of
  whole_way h e = rw (le-ltb (length work) 8192 h) (ap behind e ∙ fronted (bad_record list))

  -- the run's contract allows one outcome
  pub one_outcome : (o p : Outcome) → o ≡ run_of list ins outs work → p ≡ run_of list ins outs work → o ≡ p
  one_outcome o p = any_two (λ (l : List ℕ). run_of l ins outs work) list o p

  -- a good list, bits for its inputs and enough room: the outputs and the slots
  pub succeeds : bad_record list ≡ none → assigns (records_with input_op (records list)) ins ≡ true → length (outputs list ins) ≤ length outs → 8192 ≤ length work
      → run_of list ins outs work
      ≡ made (Ok (length (outputs list ins))) (over (length (outputs list ins)) (outputs list ins) outs) (over 8192 (pad 8192 (slots list ins)) work)
  unfolding run_of
  succeeds good fit room long = rw (le-ltb (length work) 8192 long, good, fit, le-ltb (length outs) (length (outputs list ins)) room)
