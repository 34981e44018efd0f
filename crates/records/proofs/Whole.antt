-- Read by the record reader, a list gives its records, each once and in order. Each contract allows one outcome.
use mathlib.Core.Path.{◌≡◌, refl, ap, sym, ◌∙◌}
use mathlib.Core.Bool.{Bool, true}
use mathlib.Core.List.{List, [], ◌∷◌}
use Prim.Native.Nat.{ℕ, zero, suc, ◌+◌, ◌*◌, ◌<◌}
use native.Mathlib.Omega.{arith}
use lib.ListN.{drop}
use borrow.Author.Tests.{lt-ltb}
use denote.Ref.{Bor}
use Rattle.ground.proofs.Outcome.{any_two}
use Rattle.loadlist.specs.Records.{record_in, records_in}
use Rattle.loadlist.specs.Check.{record_count, records}
use Rattle.loadlist.specs.declared.Record.{Record}
use Rattle.loadlist.proofs.Walk.{next_rest}
use Rattle.records.specs.Reader.{is_left_at, number_after, record_at, at_first, is_left, record_of, moved, read_from}
use Rattle.records.specs.declared.Records.{Records}

read_more : (n : ℕ) (reader : Records) → is_left reader ≡ true → read_from (suc n) reader ≡ record_of reader ∷ read_from n (moved reader)
unfolding read_from
read_more n reader e = rw (e, read_from, e)

module _ (list : Bor (List ℕ)) where
  abbrev at : ℕ → Records
  at k = record { list = list; number = k }

  moved_on : (k : ℕ) → is_left (at k) ≡ true → moved (at k) ≡ at (k + 1)
  moved_on k e = rw e

  -- from record k on, with n records left
  rest_read : (n k : ℕ) → k + n ≡ record_count list.now → read_from n (at k) ≡ records_in n (drop (8 * k) list.now)
  unfolding read_from records_in
  rest_read zero k e = refl
  rest_read (suc n) k e =
      let h : k < record_count list.now = omega arith in
      let l : is_left (at k) ≡ true = lt-ltb k (record_count list.now) h in
      let t : (k + 1) + n ≡ record_count list.now = omega arith in
      read_more n (at k) l ∙ ap (λ (rs : List Record). record_of (at k) ∷ rs)
      (ap (read_from n) (moved_on k l) ∙ rest_read n (k + 1) t ∙ ap (records_in n) (sym (next_rest list.now 0 k)))

  pub all_read : read_from (record_count list.now) (at_first list) ≡ records list.now
  all_read =
      let e : 0 + record_count list.now ≡ record_count list.now = omega arith in
      rest_read (record_count list.now) 0 e

-- one outcome each
pub first_one : (list : Bor (List ℕ)) (a b : Records) → a ≡ at_first list → b ≡ at_first list → a ≡ b
first_one = any_two at_first

pub left_one : (reader : Records) (a b : Bool) → a ≡ is_left reader → b ≡ is_left reader → a ≡ b
left_one = any_two is_left

pub record_one : (reader : Records) (a b : Record) → a ≡ record_of reader → b ≡ record_of reader → a ≡ b
record_one = any_two record_of

pub moved_one : (reader : Records) (a b : Records) → a ≡ moved reader → b ≡ moved reader → a ≡ b
moved_one = any_two moved

pub left_at_one : (list : List ℕ) (number : ℕ) (a b : Bool) → a ≡ is_left_at list number → b ≡ is_left_at list number → a ≡ b
left_at_one list = any_two (is_left_at list)

pub number_one : (list : List ℕ) (number a b : ℕ) → a ≡ number_after list number → b ≡ number_after list number → a ≡ b
number_one list = any_two (number_after list)
