-- What a cell of each kind makes, by the number of its kind.
use mathlib.Core.Path.{◌≡◌}
use mathlib.Core.Bool.{true, false}
use mathlib.Core.Logic.{⊎_elim}
use mathlib.Core.List.{List, []}
use Prim.Native.Nat.{ℕ, ◌<◌, ◌≤◌}
use native.Mathlib.Omega.{arith}
use lib.Dec.{ltb, eqb}
use lib.ListN.{get_or}
use borrow.Author.Tests.{ltb-true, ltb-false, eqb-true, eqb-false, ne_eqb}
use Rattle.ground.proofs.Bools.{bool_cases, or_true, or_false}
use Rattle.kinds.specs.Kinds.{not_kind, and_kind, or_kind, xor_kind, mux_kind, adc_kind, eq_kind, ult_kind, slt_kind}
use Rattle.cells.specs.Records.{made, not_made, gate_made, mux_made, adc_made, eq_made, kind_made}
use Rattle.recording.specs.ByKind.{copied, less_made}

-- a kind that is copied has none of the numbers from not to slt
not_copied : (kind n : ℕ) → not_kind ≤ n → n ≤ slt_kind → copied kind ≡ true → eqb kind n ≡ false
unfolding copied
not_copied kind n l m e =
    ne_eqb kind n (λ q. ⊎_elim (λ t. let h = ltb-true kind not_kind t in omega arith) (λ t. let h = ltb-true slt_kind kind t in omega arith)
    (or_true (ltb kind not_kind) (ltb slt_kind kind) e))

pub kind_range : (kind : ℕ) → copied kind ≡ false → (not_kind ≤ kind) × (kind ≤ slt_kind)
unfolding copied
kind_range kind e =
    let p = or_false (ltb kind not_kind) (ltb slt_kind kind) e in
    (ltb-false kind not_kind p.0, ltb-false slt_kind kind p.1)

module _ (kind k : ℕ) (a b c : List ℕ) where
  pub as_not : kind ≡ not_kind → kind_made kind k a b c ≡ not_made k a
  unfolding kind_made
  as_not e = rw e

  pub as_gate : 5 ≤ kind → kind < 8 → kind_made kind k a b c ≡ gate_made kind k a b
  unfolding kind_made
  as_gate l h =
      bool_cases (eqb kind and_kind) (λ e. rw (eqb-true kind and_kind e)) (λ p.
      bool_cases (eqb kind or_kind) (λ e. rw (eqb-true kind or_kind e)) (λ q.
      let m : kind ≡ xor_kind = (let d = eqb-false kind and_kind p in let g = eqb-false kind or_kind q in omega arith) in rw m))

  pub as_mux : kind ≡ mux_kind → kind_made kind k a b c ≡ mux_made k (get_or a 0 0) b c
  unfolding kind_made
  as_mux e = rw e

  pub as_adc : kind ≡ adc_kind → kind_made kind k a b c ≡ adc_made k a b (get_or c 0 0)
  unfolding kind_made
  as_adc e = rw e

  pub as_eq : kind ≡ eq_kind → kind_made kind k a b c ≡ eq_made k a b
  unfolding kind_made
  as_eq e = rw e

  pub as_less : 11 ≤ kind → kind < 13 → kind_made kind k a b c ≡ less_made kind k a b 0
  unfolding kind_made less_made
  as_less l h =
      bool_cases (eqb kind ult_kind) (λ e. rw (eqb-true kind ult_kind e)) (λ p.
      let m : kind ≡ slt_kind = (let d = eqb-false kind ult_kind p in omega arith) in rw m)

  pub as_buf : copied kind ≡ true → kind_made kind k a b c ≡ made [] a
  unfolding kind_made
  as_buf e =
      let other : (n : ℕ) → not_kind ≤ n → n ≤ slt_kind → eqb kind n ≡ false = λ n l m. not_copied kind n l m e in
      rw (
        other not_kind (omega arith) (omega arith),
        other and_kind (omega arith) (omega arith),
        other or_kind (omega arith) (omega arith),
        other xor_kind (omega arith) (omega arith),
        other mux_kind (omega arith) (omega arith),
        other adc_kind (omega arith) (omega arith),
        other eq_kind (omega arith) (omega arith),
        other ult_kind (omega arith) (omega arith),
        other slt_kind (omega arith) (omega arith),
      )
