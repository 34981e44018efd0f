-- The walk over the records of a list: what is left of it gives what the whole gives.
use Rattle.std.specs.Prelude.{Ok, Err}
use mathlib.Core.Path.{◌≡◌, ap, ap₂, sym, ◌∙◌}
use mathlib.Core.Bool.{true, false}
use mathlib.Core.List.{List, ◌∷◌}
use mathlib.Core.Option.{none, some}
use Prim.Native.Nat.{ℕ, suc, ◌+◌, ◌*◌, ◌-◌, ◌<◌}
use native.Mathlib.Nat.{add-zero, zero-add, add_assoc}
use native.Mathlib.Omega.{arith}
use lib.ListN.{drop}
use lib.Seq.{drop-drop}
use borrow.Author.Tests.{ltb-true}
use Rattle.ground.specs.Lists.{total}
use Rattle.ground.proofs.Bools.{and_true}
use Rattle.loadlist.specs.declared.Record.{Record}
use Rattle.loadlist.specs.Records.{record_in, records_in, input_op, output_op}
use Rattle.loadlist.specs.Check.{good_record, bad_record_from, bad_record, counted, record_count, records_with, records, listed_of}

-- a good record is one of the first 8,192
pub good_early : (s : List ℕ) (k inputs outputs : ℕ) → good_record s k inputs outputs ≡ true → k < 8192
unfolding good_record
good_early s k inputs outputs e = ltb-true k 8192 (and_true _ _ e).0

-- what is left after record k
module _ (s : List ℕ) (n k : ℕ) where
  pub next_rest : drop 8 (drop (8 * k) s) ≡ drop (8 * (k + 1)) s
  next_rest = let e : 8 * k + 8 ≡ 8 * (k + 1) = omega arith in drop-drop 8 (8 * k) s ∙ ap (λ (m : ℕ). drop m s) e

  module _ (more : k < n) where
    one_left : n - k ≡ suc (n - (k + 1))
    one_left = omega arith

    pub records_more : records_in (n - k) (drop (8 * k) s) ≡ record_in (drop (8 * k) s) ∷ records_in (n - (k + 1)) (drop (8 * (k + 1)) s)
    unfolding records_in
    records_more = rw (one_left, records_in, next_rest)

    pub count_more : (op m : ℕ) → m + records_with op (records_in (n - k) (drop (8 * k) s)) ≡ counted op (record_in (drop (8 * k) s)) m + records_with op (records_in (n - (k + 1)) (drop (8 * (k + 1)) s))
    unfolding total
    count_more op m = rw (records_more, total) (sym (add_assoc m _ _))

    pub bad_more : (i o : ℕ) → good_record (drop (8 * k) s) k i o ≡ true → bad_record_from (n - k) (drop (8 * k) s) k i o
        ≡ bad_record_from (n - (k + 1)) (drop (8 * (k + 1)) s) (k + 1) (counted input_op (record_in (drop (8 * k) s)) i) (counted output_op (record_in (drop (8 * k) s)) o)
    unfolding bad_record_from
    bad_more i o e = rw (one_left, e, bad_record_from, next_rest)

    pub bad_here : (i o : ℕ) → good_record (drop (8 * k) s) k i o ≡ false → bad_record_from (n - k) (drop (8 * k) s) k i o ≡ some (8 * k)
    unfolding bad_record_from
    bad_here i o e = rw (one_left, e, bad_record_from)

-- the first k of n records are good, with so many inputs and outputs among them
pub record Passed (s : List ℕ) (n k inputs outputs : ℕ) : Type 0 where
  pub bad : bad_record_from (n - k) (drop (8 * k) s) k inputs outputs ≡ bad_record s
  pub ins : inputs + records_with input_op (records_in (n - k) (drop (8 * k) s)) ≡ records_with input_op (records s)
  pub outs : outputs + records_with output_op (records_in (n - k) (drop (8 * k) s)) ≡ records_with output_op (records s)

pub passed_none : (s : List ℕ) (n : ℕ) → n ≡ record_count s → Passed s n 0 0 0
unfolding bad_record
passed_none s n e =
    let m : n - 0 ≡ record_count s = omega arith in
    record { bad = rw m; ins = rw (m, zero-add); outs = rw (m, zero-add) }

pub passed_more : {s : List ℕ} {n k i o : ℕ} {r : Record} (i' o' : ℕ) → Passed s n k i o → k < n → r ≡ record_in (drop (8 * k) s) → good_record (drop (8 * k) s) k i o ≡ true
    → i' ≡ counted input_op r i → o' ≡ counted output_op r o → Passed s n (k + 1) i' o'
passed_more {s} {n} {k} {i} {o} {r} i' o' p more e good is os =
    record {
      bad = rw (is, os, e) (sym (bad_more s n k more i o good) ∙ p.bad);
      ins = rw (is, e) (sym (count_more s n k more input_op i) ∙ p.ins);
      outs = rw (os, e) (sym (count_more s n k more output_op o) ∙ p.outs);
    }

-- the ways out of the check
pub listed_bad : {s : List ℕ} {n k i o : ℕ} → Passed s n k i o → k < n → good_record (drop (8 * k) s) k i o ≡ false → Err (8 * k) ≡ listed_of s
unfolding listed_of
listed_bad {s} {n} {k} {i} {o} p more e = rw (sym p.bad ∙ bad_here s n k more i o e)

pub listed_good : {s : List ℕ} {n k i o : ℕ} → Passed s n k i o → n ≡ k → Ok (i, o) ≡ listed_of s
unfolding listed_of records_in bad_record_from total
listed_good {s} {n} {k} {i} {o} p e =
    let z : n - k ≡ 0 = omega arith in
    let b : none ≡ bad_record s = rw z at p.bad in
    let a : i ≡ records_with input_op (records s) = sym (add-zero i) ∙ (rw z at p.ins) in
    let q : o ≡ records_with output_op (records s) = sym (add-zero o) ∙ (rw z at p.outs) in
    rw (← b) (ap₂ (λ (i o : ℕ). Ok (i, o)) a q)
