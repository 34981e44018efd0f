-- The value of a cell by where its kind's number stands.
use mathlib.Core.Path.{◌≡◌}
use mathlib.Core.Bool.{false}
use mathlib.Core.List.{List, [], ◌∷◌}
use Prim.Native.Nat.{ℕ, ◌<◌}
use native.Mathlib.Omega.{arith}
use lib.Dec.{eqb}
use lib.ListN.{get_or}
use borrow.Author.Tests.{eq-eqb, ne_eqb, eqb-false}
use Rattle.ground.proofs.Bools.{bool_cases}
use Rattle.trit.specs.Mux.{mux_bits}
use Rattle.trit.specs.Wide.{not_bits, pairs, adc_bits}
use Rattle.cells.specs.Values.{kind_value}
use Rattle.cellvalues.specs.Picked.{gate_of, compare_bit}

past : (k n : ℕ) → n < k → eqb k n ≡ false
past k n h = ne_eqb k n (λ e. omega arith)

short : (k n : ℕ) → k < n → eqb k n ≡ false
short k n h = ne_eqb k n (λ e. omega arith)

module _ (k : ℕ) (a b c : List ℕ) where
  -- below mux the third operand does not count
  pub value_two : k < 8 → kind_value k a b [] ≡ kind_value k a b c
  unfolding kind_value
  value_two h = rw (short k 8 (omega arith), short k 9 (omega arith))

  pub value_copied : k < 4 → kind_value k a b c ≡ a
  unfolding kind_value
  value_copied h =
      rw (
        short k 4 h,
        short k 5 (omega arith),
        short k 6 (omega arith),
        short k 7 (omega arith),
        short k 8 (omega arith),
        short k 9 (omega arith),
        short k 10 (omega arith),
        short k 11 (omega arith),
        short k 12 (omega arith),
      )

  pub value_not : k ≡ 4 → kind_value k a b c ≡ not_bits a
  unfolding kind_value
  value_not e = rw e

  pub value_gate : 4 < k → k < 8 → kind_value k a b c ≡ pairs (gate_of k) a b
  unfolding kind_value gate_of
  value_gate h m =
      rw (past k 4 h)
      (bool_cases (eqb k 5) (λ e. rw e) (λ e. rw e
      (bool_cases (eqb k 6) (λ f. rw f) (λ f. rw (f, eq-eqb k 7 (omega (arith, eqb-false k 5 e, eqb-false k 6 f)))))))

  pub value_mux : k ≡ 8 → kind_value k a b c ≡ mux_bits (get_or a 0 2) b c
  unfolding kind_value
  value_mux e = rw e

  pub value_adc : k ≡ 9 → kind_value k a b c ≡ adc_bits a b (get_or c 0 2)
  unfolding kind_value
  value_adc e = rw e

  pub value_compare : 9 < k → k < 13 → kind_value k a b c ≡ compare_bit k a b ∷ []
  unfolding kind_value compare_bit
  value_compare h m =
      rw (past k 4 (omega arith), past k 5 (omega arith), past k 6 (omega arith), past k 7 (omega arith), past k 8 (omega arith), past k 9 h)
      (bool_cases (eqb k 10) (λ e. rw e) (λ e. rw e
      (bool_cases (eqb k 11) (λ f. rw f) (λ f. rw (f, eq-eqb k 12 (omega (arith, eqb-false k 10 e, eqb-false k 11 f)))))))

  pub value_other : 12 < k → kind_value k a b c ≡ a
  unfolding kind_value
  value_other h =
      rw (
        past k 4 (omega arith),
        past k 5 (omega arith),
        past k 6 (omega arith),
        past k 7 (omega arith),
        past k 8 (omega arith),
        past k 9 (omega arith),
        past k 10 (omega arith),
        past k 11 (omega arith),
        past k 12 h,
      )
