-- What is known of a list that the check finds good.
use Rattle.std.specs.Prelude.{Result, Ok, Err}
use Rattle.ground.proofs.Pairs.{ok_first, ok_second}
use mathlib.Core.Path.{◌≡◌, refl, ap}
use mathlib.Core.List.{List}
use mathlib.Core.Option.{Option, none, some}
use Prim.Native.Nat.{ℕ, zero, suc, ◌+◌, ◌*◌, ◌≤◌}
use native.Mathlib.Omega.{arith}
use lib.ListN.{length, drop}
use Rattle.ground.proofs.Bools.{bool_cases}
use Rattle.ground.proofs.Outcome.{any_two}
use Rattle.loadlist.specs.Records.{record_in, records_in, input_op, output_op}
use Rattle.loadlist.specs.Check.{good_record, bad_record_from, bad_record, counted, record_count, records_with, records, listed_from, listed_of}
use Rattle.loadlist.proofs.Walk.{good_early}

pub length_records : (n : ℕ) (s : List ℕ) → length (records_in n s) ≡ n
unfolding records_in
length_records zero s = refl
length_records (suc n) s = ap suc (length_records n (drop 8 s))

few_from : (n : ℕ) (s : List ℕ) (k i o : ℕ) → k ≤ 8192 → bad_record_from n s k i o ≡ none → k + n ≤ 8192
unfolding bad_record_from
few_from zero s k i o h e = omega arith
few_from (suc n) s k i o h e = bool_cases (good_record s k i o)
    (λ g. let l = good_early s k i o g in
    let r = few_from n (drop 8 s) (k + 1) (counted input_op (record_in s) i) (counted output_op (record_in s) o) (omega arith) (rw (g, bad_record_from) at e) in
    omega arith)
    (λ g. let c : some (8 * k) ≡ none = rw (g, bad_record_from) at e in
    let z : ◌≡◌ {A = ℕ} 0 1 = cc in absurd (omega arith))

-- a list without a bad record has at most 8,192 records
pub few_records : (s : List ℕ) → bad_record s ≡ none → record_count s ≤ 8192
unfolding bad_record
few_records s e = let l = few_from (record_count s) s 0 0 0 (omega arith) e in omega arith

pub record GoodList (s : List ℕ) (inputs outputs : ℕ) : Type 0 where
  pub all : bad_record s ≡ none
  pub ins : inputs ≡ records_with input_op (records s)
  pub outs : outputs ≡ records_with output_op (records s)

-- what the check's answer tells
pub good_list : (s : List ℕ) (inputs outputs : ℕ) → Ok (inputs, outputs) ≡ listed_of s → GoodList s inputs outputs
unfolding listed_of
good_list s inputs outputs e = go (bad_record s) refl e
  where
    go : (b : Option ℕ) → bad_record s ≡ b → Ok (inputs, outputs) ≡ listed_from s b → GoodList s inputs outputs
    go none p q = record { all = p; ins = ok_first q; outs = ok_second q }
    go (some k) p q = let z : ◌≡◌ {A = ℕ} 0 1 = cc in absurd (omega arith)

pub bad_list : (s : List ℕ) (k : ℕ) → Err k ≡ listed_of s → bad_record s ≡ some k
unfolding listed_of
bad_list s k e = go (bad_record s) refl e
  where
    go : (b : Option ℕ) → bad_record s ≡ b → Err k ≡ listed_from s b → bad_record s ≡ some k
    go none p q = let z : ◌≡◌ {A = ℕ} 0 1 = cc in absurd (omega arith)
    go (some j) p q = cc

-- the check's contract allows one answer
pub one_answer : (s : List ℕ) (a b : Result (ℕ × ℕ) ℕ) → a ≡ listed_of s → b ≡ listed_of s → a ≡ b
one_answer s a b = any_two listed_of s a b
