-- Each way out of an evaluation, over plain lists.
use Rattle.std.specs.Prelude.{Result, Ok, Err}
use Prim.Native.Nat.{ℕ, ◌≤◌, ◌<◌}
use mathlib.Core.Path.{◌≡◌, sym, ap, ap₂, ◌∙◌}
use mathlib.Core.Bool.{Bool, true, false, ◌||◌}
use mathlib.Core.List.{List, ◌++◌}
use native.Mathlib.Omega.{arith}
use lib.Dec.{ltb, eqb}
use lib.ListN.{length, take, drop}
use lib.Seq.{sets}
use borrow.Author.Tests.{lt-ltb, le-ltb, eq-eqb, ne_eqb, eqb-true}
use Rattle.ground.specs.Lists.{every}
use Rattle.ground.specs.Refusals.{at, refusal}
use Rattle.ground.specs.Regions.{zeros, over, part}
use Rattle.ground.specs.Writes.{Put}
use Rattle.ground.specs.declared.Refusal.{Refusal}
use Rattle.ground.proofs.Bools.{bool_cases, and_true}
use Rattle.ground.proofs.Lent.{over_all, over_front, sets_front}
use Rattle.ground.proofs.Outcome.{any_two}
use Rattle.ground.proofs.Regions.{length_zeros}
use Rattle.netlist.specs.Netlist.{Netlist}
use Rattle.netlist.specs.Tables.{tables_in}
use Rattle.netlist.specs.Good.{short, good, check_of, netlist_in}
use Rattle.loadlist.specs.Run.{assigns}
use Rattle.placing.specs.Placing.{ringed, input_bits}
use Rattle.evaluating.specs.Evaluation.{evaluation}
use Rattle.evaluating.specs.Outcome.{Outcome, made, cleared, evaluated_of, evaluate_of}
use Rattle.evaluating.specs.Answered.{answered, Given}

-- work space of its exact length is all cleared
clear_all : (work : List ℕ) → length work ≡ 8192 → zeros 8192 ≡ cleared work
clear_all work l = sym (over_all 8192 (zeros 8192) work (omega arith))

-- THE ASSIGNMENT
pub unfit_length : (n : ℕ) (ins : List ℕ) → (length ins ≡ n → ⊥) → false ≡ assigns n ins
unfit_length n ins h = rw (ne_eqb (length ins) n h)

pub fit_trits : (n : ℕ) (ins : List ℕ) (b : Bool) → length ins ≡ n → b ≡ every (λ x. ltb x 3) ins → b ≡ assigns n ins
fit_trits n ins b l e = rw (eq-eqb (length ins) n l) e

pub fit_length : (n : ℕ) (ins : List ℕ) → assigns n ins ≡ true → length ins ≡ n
fit_length n ins h = eqb-true (length ins) n (and_true (eqb (length ins) n) _ h).0

-- THE ROOM
pub no_room : (bits outs : List ℕ) (n : ℕ) → n ≡ length bits → length outs < n → Given bits outs (Err (refusal 24 (at 0))) outs
no_room bits outs n e h = record { is = λ work. rw (lt-ltb (length outs) (length bits) (omega (arith, e, h))) }

-- the bits stand at the front of what was worked out, and are copied from there
pub some_room : (bits outs zs all outs' : List ℕ) (n : ℕ) → Put zs 0 bits n all → length bits ≤ length zs → n ≤ length outs → outs' ≡ sets outs 0 (part 0 n all) → Given bits outs (Ok n) outs'
unfolding part over
some_room bits outs zs all outs' n p h l e =
    let k : n ≡ length bits = p.next ∙ (omega arith) in
    let a : all ≡ over (length bits) bits zs = p.holds ∙ sets_front zs bits h in
    let t : part 0 n all ≡ bits = ap₂ (λ (m : ℕ) (x : List ℕ). take m x) k a ∙ lib.Seq.take-append_seam bits (drop (length bits) zs) in
    let m : length bits ≤ length outs = omega (arith, k, l) in
    let o : outs' ≡ over (length bits) bits outs = e ∙ ap (λ (x : List ℕ). sets outs 0 x) t ∙ sets_front outs bits m in
    record { is = λ work. rw (le-ltb (length outs) (length bits) m) (ap₂ (λ (i : ℕ) (x : List ℕ). made (Ok i) x (cleared work)) k o) }

pub told : {old new bits : List ℕ} {n : ℕ} → Put old 0 bits n new → n ≡ length bits
told p = p.next ∙ omega arith

-- ALL REFUSALS IN ORDER, in clear work space
module _ (ring fits : Bool) (bits outs work work' : List ℕ) (long : length work ≡ 8192) (clear : work' ≡ zeros 8192) where
  is_clear : work' ≡ cleared work
  is_clear = clear ∙ clear_all work long

  pub ring_way : ring ≡ true → made (Err (refusal 20 (at 0))) outs work' ≡ answered ring fits bits outs work
  ring_way r = rw r (ap (λ (w : List ℕ). made (Err (refusal 20 (at 0))) outs w) is_clear)

  pub unfit_way : ring ≡ false → fits ≡ false → made (Err (refusal 23 (at 0))) outs work' ≡ answered ring fits bits outs work
  unfit_way r f = rw (r, f) (ap (λ (w : List ℕ). made (Err (refusal 23 (at 0))) outs w) is_clear)

  pub given_way : (r : Result ℕ Refusal) (outs' : List ℕ) → ring ≡ false → fits ≡ true → Given bits outs r outs' → made r outs' work' ≡ answered ring fits bits outs work
  given_way r outs' e f g = rw (e, f) (ap (λ (w : List ℕ). made r outs' w) is_clear ∙ g.is work)

-- what is answered, where ring, fit and bits are those of the netlist
pub answered_is : (N : Netlist) (ins : List ℕ) (ring fits : Bool) (bits outs work : List ℕ) → ring ≡ ringed N → fits ≡ assigns (input_bits N) ins
    → (ringed N ≡ false → length ins ≡ input_bits N → bits ≡ evaluation N ins) → answered ring fits bits outs work ≡ evaluated_of N ins outs work
answered_is N ins ring fits bits outs work p q h = bool_cases (ringed N)
    (λ e. rw (p, e))
    (λ e. bool_cases (assigns (input_bits N) ins)
    (λ f. let b = h e (fit_length (input_bits N) ins f) in rw (p, q, e, f, b))
    (λ f. rw (p, q, e, f)))

-- work spaces of one length are cleared alike
pub cleared_same : (N : Netlist) (ins outs work' work : List ℕ) → work' ≡ zeros 8192 → length work ≡ 8192 → evaluated_of N ins outs work' ≡ evaluated_of N ins outs work
cleared_same N ins outs work' work z l =
    let e : cleared work' ≡ cleared work = sym (clear_all work' (ap length z ∙ length_zeros 8192)) ∙ clear_all work l in
    bool_cases (ringed N)
    (λ a. rw (a, e))
    (λ a. bool_cases (assigns (input_bits N) ins)
    (λ b. bool_cases (ltb (length outs) (length (evaluation N ins))) (λ d. rw (a, b, d, e)) (λ d. rw (a, b, d, e)))
    (λ b. rw (a, b, e)))

-- ANY LENT TABLES, in work space of its exact length
module _ (rows strings bits ins outs work : List ℕ) (long : length work ≡ 8192) (here : short rows strings bits ≡ false) where
  -- 1 does not apply, so the check refuses 15
  pub not_good : (g : Refusal) (work' : List ℕ) → work' ≡ zeros 8192 → check_of rows strings bits ≡ Err g → made (Err g) outs work' ≡ evaluate_of rows strings bits ins outs work
  unfolding evaluate_of check_of
  not_good g work' c h = bool_cases (good (tables_in rows strings bits))
      (λ e. let z : ◌≡◌ {A = ℕ} 0 1 = cc (rw (here, e) at h) in absurd (omega arith))
      (λ e. let k : refusal 15 (at 0) ≡ g = cc (rw (here, e) at h) in
      rw (here, le-ltb (length work) 8192 (omega arith), e) (ap₂ (λ (x : Refusal) (w : List ℕ). made (Err x) outs w) (sym k) (c ∙ clear_all work long)))

  pub are_good : (o : Outcome) → good (tables_in rows strings bits) ≡ true → o ≡ evaluated_of (netlist_in rows strings bits) ins outs work → o ≡ evaluate_of rows strings bits ins outs work
  unfolding evaluate_of
  are_good o g e = rw (here, le-ltb (length work) 8192 (omega arith), g) e

-- WORK SPACE of any length: of a longer one only the front counts
module _ (rows strings bits ins outs work : List ℕ) where
  pub too_short : short rows strings bits || ltb (length work) 8192 ≡ true → made (Err (refusal 1 (at 0))) outs work ≡ evaluate_of rows strings bits ins outs work
  unfolding evaluate_of
  too_short h = rw h

  abbrev behind : Outcome → Outcome
  behind o = made o.answer o.outs (o.work ++ drop 8192 work)

  -- clearing the front of the work space is clearing it
  front_clear : cleared (take 8192 work) ++ drop 8192 work ≡ cleared work
  front_clear = over_front 8192 (zeros 8192) work

  evaluated_front : (N : Netlist) → behind (evaluated_of N ins outs (take 8192 work)) ≡ evaluated_of N ins outs work
  evaluated_front N = bool_cases (ringed N)
      (λ e. rw (e, front_clear))
      (λ e. bool_cases (assigns (input_bits N) ins)
      (λ f. bool_cases (ltb (length outs) (length (evaluation N ins))) (λ g. rw (e, f, g, front_clear)) (λ g. rw (e, f, g, front_clear)))
      (λ f. rw (e, f, front_clear)))

  pub whole_way : (r : Result ℕ Refusal) (outs' work' : List ℕ) → short rows strings bits ≡ false → 8192 ≤ length work → made r outs' work' ≡ evaluate_of rows strings bits ins outs (take 8192 work)
      → made r outs' (work' ++ drop 8192 work) ≡ evaluate_of rows strings bits ins outs work
  unfolding evaluate_of
  whole_way r outs' work' s l e =
      let a : ltb (length (take 8192 work)) 8192 ≡ false = le-ltb (length (take 8192 work)) 8192 (omega (arith, lib.Seq.length-take-le 8192 work l)) in
      let b : ltb (length work) 8192 ≡ false = le-ltb (length work) 8192 l in
      bool_cases (good (tables_in rows strings bits))
      (λ g. rw (s, b, g) (ap behind (rw (s, a, g) at e) ∙ evaluated_front (netlist_in rows strings bits)))
      (λ g. rw (s, b, g) (ap behind (rw (s, a, g) at e) ∙ (rw front_clear)))

  -- ONE OUTCOME: two that the contract allows are equal
  pub one_outcome : (o p : Outcome) → o ≡ evaluate_of rows strings bits ins outs work → p ≡ evaluate_of rows strings bits ins outs work → o ≡ p
  one_outcome o p = any_two (λ (l : List ℕ). evaluate_of l strings bits ins outs work) rows o p

-- lengths that are tested one by one
module _ (rows strings bits : List ℕ) where
  pub none_short : 26307 ≤ length rows → 16384 ≤ length strings → 393728 ≤ length bits → short rows strings bits ≡ false
  unfolding short
  none_short a b h = rw (le-ltb (length rows) 26307 a, le-ltb (length strings) 16384 b, le-ltb (length bits) 393728 h)
