-- Each way out of a translation, over plain lists.
use Rattle.std.specs.Prelude.{Result, Ok, Err}
use Prim.Native.Nat.{ℕ, ◌*◌, ◌≤◌, ◌<◌}
use mathlib.Core.Path.{◌≡◌, refl, sym, ap, ap₂, ◌∙◌}
use mathlib.Core.Bool.{Bool, true, false, ◌||◌}
use mathlib.Core.List.{List, ◌++◌}
use native.Mathlib.Omega.{arith}
use lib.Dec.{ltb}
use lib.ListN.{length, take, drop}
use lib.Seq.{length-take-le}
use borrow.Author.Tests.{lt-ltb, le-ltb}
use Rattle.ground.specs.Refusals.{at, refusal}
use Rattle.ground.specs.Regions.{zeros, over}
use Rattle.ground.specs.declared.Refusal.{Refusal}
use Rattle.ground.proofs.Bools.{bool_cases}
use Rattle.ground.proofs.Lent.{over_all, over_front, sets_front}
use Rattle.ground.proofs.Regions.{length_zeros}
use Rattle.ground.proofs.Outcome.{any_two}
use Rattle.netlist.specs.Netlist.{Netlist}
use Rattle.netlist.specs.Tables.{tables_in}
use Rattle.netlist.specs.Good.{short, good, check_of, netlist_in}
use Rattle.loadlist.specs.Records.{list_bytes}
use Rattle.loadlist.specs.declared.Record.{Record}
use Rattle.recording.specs.Making.{Puts}
use Rattle.placing.specs.Placing.{ringed}
use Rattle.loadlist.proofs.Laws.{bytes_long}
use Rattle.translating.specs.Translation.{translation, record_sum}
use Rattle.translating.specs.Outcome.{Outcome, made, cleared, translated_of, translate_of}
use Rattle.translating.specs.Answered.{answered, Given}
use Rattle.translating.specs.Sound.{Roomy}

-- work space of its exact length is all cleared
clear_all : (work : List ℕ) → length work ≡ 8192 → zeros 8192 ≡ cleared work
clear_all work l = sym (over_all 8192 (zeros 8192) work (omega arith))

module _ (sum n : ℕ) (rs : List Record) (room : List ℕ) (e : n ≡ sum) where
  pub too_many : 8192 < n → Given sum rs room (Err (refusal 21 (at 0))) room
  too_many h = record { is = λ work. rw (lt-ltb 8192 sum (omega (arith, e))) }

  pub no_room : n ≤ 8192 → length room < 8 * n → Given sum rs room (Err (refusal 24 (at 0))) room
  no_room l h = record { is = λ work. rw (le-ltb 8192 sum (omega (arith, e)), lt-ltb (length room) (8 * sum) (omega (arith, e))) }

  module _ (c : length rs ≡ sum) (l : n ≤ 8192) (h : 8 * n ≤ length room) where
    pub is_roomy : Roomy room 0 rs
    is_roomy = record { slots = omega (arith, c, e); bytes = omega (arith, c, e) }

    pub some_room : {room' : List ℕ} → Puts room 0 rs room' → Given sum rs room (Ok n) room'
    some_room {room'} p =
        let b : length (list_bytes rs) ≡ 8 * sum = bytes_long rs ∙ ap (λ (k : ℕ). 8 * k) c in
        let o : room' ≡ over (8 * sum) (list_bytes rs) room = p.is ∙ sets_front room (list_bytes rs) (omega (arith, b, e)) ∙ ap (λ (k : ℕ). over k (list_bytes rs) room) b in
        record { is = λ work. rw (le-ltb 8192 sum (omega (arith, e)), le-ltb (length room) (8 * sum) (omega (arith, e))) (ap₂ (λ (i : ℕ) (x : List ℕ). made (Ok i) x (cleared work)) e o) }

-- A RING IS REFUSED FIRST, in clear work space
module _ (ring : Bool) (sum : ℕ) (rs : List Record) (room work work' : List ℕ) (long : length work ≡ 8192) (clear : work' ≡ zeros 8192) where
  is_clear : work' ≡ cleared work
  is_clear = clear ∙ clear_all work long

  pub ring_way : ring ≡ true → made (Err (refusal 20 (at 0))) room work' ≡ answered ring sum rs room work
  ring_way r = rw r (ap (λ (w : List ℕ). made (Err (refusal 20 (at 0))) room w) is_clear)

  pub given_way : (r : Result ℕ Refusal) (room' : List ℕ) → ring ≡ false → Given sum rs room r room' → made r room' work' ≡ answered ring sum rs room work
  given_way r room' e g = rw e (ap (λ (w : List ℕ). made r room' w) is_clear ∙ g.is work)

-- what is answered, where ring, sum and records are those of the netlist
pub answered_is : (N : Netlist) (ring : Bool) (sum : ℕ) (rs : List Record) (room work : List ℕ) → ring ≡ ringed N → sum ≡ record_sum N
    → (ringed N ≡ false → rs ≡ translation N) → answered ring sum rs room work ≡ translated_of N room work
answered_is N ring sum rs room work p q h = bool_cases (ringed N) (λ e. rw (p, e)) (λ e. let b = h e in rw (p, q, e, b))

-- ANY LENT TABLES, in work space of its exact length
module _ (rows strings bits room work : List ℕ) (long : length work ≡ 8192) (here : short rows strings bits ≡ false) where
  -- 1 does not apply, so the check refuses 15
  pub not_good : (g : Refusal) (work' : List ℕ) → work' ≡ zeros 8192 → check_of rows strings bits ≡ Err g → made (Err g) room work' ≡ translate_of rows strings bits room work
  unfolding translate_of check_of
  not_good g work' c h = bool_cases (good (tables_in rows strings bits))
      (λ e. let z : ◌≡◌ {A = ℕ} 0 1 = cc (rw (here, e) at h) in absurd (omega arith))
      (λ e. let k : refusal 15 (at 0) ≡ g = cc (rw (here, e) at h) in
      rw (here, le-ltb (length work) 8192 (omega arith), e) (ap₂ (λ (x : Refusal) (w : List ℕ). made (Err x) room w) (sym k) (c ∙ clear_all work long)))

  pub are_good : (o : Outcome) → good (tables_in rows strings bits) ≡ true → o ≡ translated_of (netlist_in rows strings bits) room work → o ≡ translate_of rows strings bits room work
  unfolding translate_of
  are_good o g e = rw (here, le-ltb (length work) 8192 (omega arith), g) e

-- WORK SPACE of any length: of a longer one only the front counts
module _ (rows strings bits room work : List ℕ) where
  pub too_short : short rows strings bits || ltb (length work) 8192 ≡ true → made (Err (refusal 1 (at 0))) room work ≡ translate_of rows strings bits room work
  unfolding translate_of
  too_short h = rw h

  abbrev behind : Outcome → Outcome
  behind o = made o.answer o.room (o.work ++ drop 8192 work)

  -- clearing the front of the work space is clearing it
  front_clear : cleared (take 8192 work) ++ drop 8192 work ≡ cleared work
  front_clear = over_front 8192 (zeros 8192) work

  translated_front : (N : Netlist) → behind (translated_of N room (take 8192 work)) ≡ translated_of N room work
  translated_front N = bool_cases (ringed N)
      (λ e. rw (e, front_clear))
      (λ e. bool_cases (ltb 8192 (record_sum N))
      (λ f. rw (e, f, front_clear))
      (λ f. bool_cases (ltb (length room) (8 * record_sum N)) (λ g. rw (e, f, g, front_clear)) (λ g. rw (e, f, g, front_clear))))

  pub whole_way : (r : Result ℕ Refusal) (room' work' : List ℕ) → short rows strings bits ≡ false → 8192 ≤ length work → made r room' work' ≡ translate_of rows strings bits room (take 8192 work)
      → made r room' (work' ++ drop 8192 work) ≡ translate_of rows strings bits room work
  unfolding translate_of
  whole_way r room' work' s l e =
      let a : ltb (length (take 8192 work)) 8192 ≡ false = le-ltb (length (take 8192 work)) 8192 (omega (arith, length-take-le 8192 work l)) in
      let b : ltb (length work) 8192 ≡ false = le-ltb (length work) 8192 l in
      bool_cases (good (tables_in rows strings bits))
      (λ g. rw (s, b, g) (ap behind (rw (s, a, g) at e) ∙ translated_front (netlist_in rows strings bits)))
      (λ g. rw (s, b, g) (ap behind (rw (s, a, g) at e) ∙ (rw front_clear)))

  -- ONE OUTCOME: two that the contract allows are equal
  pub one_outcome : (o p : Outcome) → o ≡ translate_of rows strings bits room work → p ≡ translate_of rows strings bits room work → o ≡ p
  one_outcome o p = any_two (λ (l : List ℕ). translate_of l strings bits room work) rows o p

-- lengths that are tested one by one
pub or_short : {a : Bool} (b : Bool) → a ≡ true → a || b ≡ true
or_short b e = rw e

pub work_short : (s : Bool) (work : List ℕ) → length work < 8192 → s || ltb (length work) 8192 ≡ true
work_short true work h = refl
work_short false work h = lt-ltb (length work) 8192 h

-- clear work space counts as any other of its length
pub good_clear : (N : Netlist) (room work work' : List ℕ) → length work ≡ 8192 → work' ≡ zeros 8192 → translated_of N room work' ≡ translated_of N room work
good_clear N room work work' l e =
    let k : length work' ≡ 8192 = ap length e ∙ length_zeros 8192 in
    let c : cleared work' ≡ cleared work = sym (clear_all work' k) ∙ clear_all work l in
    rw c
