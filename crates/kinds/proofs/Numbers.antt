-- What the table of kinds gives at each number, and that each function on it has one outcome.
use mathlib.Core.Path.{◌≡◌, refl, sym}
use mathlib.Core.Bool.{Bool, false}
use mathlib.Core.List.{List, [], ◌∷◌}
use Prim.Native.Nat.{ℕ, ◌<◌, ◌≤◌}
use native.Mathlib.Omega.{arith}
use lib.Dec.{eqb}
use lib.ListN.{get_or}
use borrow.Author.Tests.{ne_eqb}
use Rattle.ground.proofs.Bools.{bool_cases}
use Rattle.ground.proofs.Outcome.{any_two}
use Rattle.ground.proofs.Tables.{table_rule}
use Rattle.kinds.specs.Kinds.{Kind, no_kind, kind_at}
use Rattle.kinds.proofs.Widths.{picked}

-- no kind has a number past 12
pub no_kind_lem : (n : ℕ) → 12 < n → kind_at n ≡ no_kind
unfolding kind_at
no_kind_lem n h =
    let d : (k : ℕ) → k ≤ 12 → eqb n k ≡ false = λ k l. ne_eqb n k (λ e. omega arith) in
    rw (
      d 1 (omega arith),
      d 2 (omega arith),
      d 3 (omega arith),
      d 4 (omega arith),
      d 5 (omega arith),
      d 6 (omega arith),
      d 7 (omega arith),
      d 8 (omega arith),
      d 9 (omega arith),
      d 10 (omega arith),
      d 11 (omega arith),
      d 12 (omega arith),
    )

abbrev operands : List ℕ
operands = 0 ∷ 0 ∷ 1 ∷ 1 ∷ 1 ∷ 2 ∷ 2 ∷ 2 ∷ 3 ∷ 3 ∷ 2 ∷ 2 ∷ 2 ∷ []

pub operands_at : (n : ℕ) → n < 13 → get_or operands n 0 ≡ (kind_at n).operands
unfolding kind_at
operands_at n h = table_rule (λ k. (kind_at k).operands) operands tt n h

-- past the first two no keyword has a name
abbrev Unnamed : Kind → Type 0
Unnamed k = k.named ≡ false

pub unnamed : (n : ℕ) → (n ≡ 1 → ⊥) → eqb n 2 ≡ (kind_at n).named
unfolding kind_at
unnamed n h = rw (ne_eqb n 1 h) (sym (bool_cases (eqb n 2) (λ e. rw e) (λ e. rw e
    (picked Unnamed (eqb n 3) _ _ refl (picked Unnamed (eqb n 4) _ _ refl (picked Unnamed (eqb n 5) _ _ refl (picked Unnamed (eqb n 6) _ _ refl
    (picked Unnamed (eqb n 7) _ _ refl (picked Unnamed (eqb n 8) _ _ refl (picked Unnamed (eqb n 9) _ _ refl (picked Unnamed (eqb n 10) _ _ refl
    (picked Unnamed (eqb n 11) _ _ refl (picked Unnamed (eqb n 12) _ _ refl refl)))))))))))))

pub one_count : (n o p : ℕ) → o ≡ (kind_at n).operands → p ≡ (kind_at n).operands → o ≡ p
one_count = any_two (λ n. (kind_at n).operands)

pub one_named : (n : ℕ) (o p : Bool) → o ≡ (kind_at n).named → p ≡ (kind_at n).named → o ≡ p
one_named = any_two (λ n. (kind_at n).named)
