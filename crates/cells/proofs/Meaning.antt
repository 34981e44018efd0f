-- The records of a cell hold its value: for every kind but input, where the operands' slots are made and hold trits.
use mathlib.Core.Path.{◌≡◌, refl, ap, ap₂, ◌∙◌, sym, subst}
use mathlib.Core.Bool.{Bool, true, false, ◌&&◌}
use mathlib.Core.List.{List, [], ◌∷◌, ◌++◌, map}
use Prim.Native.Nat.{ℕ, zero, suc, ◌+◌, ◌<◌, ◌≤◌}
use native.Mathlib.Omega.{arith}
use lib.Dec.{eqb}
use lib.ListN.{length, get_or, length-map}
use borrow.Author.Tests.{eqb-true}
use Rattle.ground.specs.Choice.{pick}
use Rattle.ground.proofs.Bools.{and_true}
use Rattle.kinds.specs.Kinds.{wide, mux, adc, eq, kind_at, not_kind, and_kind, or_kind, xor_kind, mux_kind, adc_kind, eq_kind, ult_kind, slt_kind}
use Rattle.kinds.proofs.Widths.{Fits, wide_is}
use Rattle.trit.specs.Trit.{and_of, or_of, xor_of, Trits}
use Rattle.trit.specs.Wide.{not_bits, pairs, adc_bits, eq_bit, ult_bit, slt_bit}
use Rattle.trit.specs.Mux.{mux_bits}
use Rattle.trit.specs.Gates.{eq_gates, ult_gates, slt_gates}
use Rattle.trit.proofs.Wide.{trits_map, trits_at, mux_gates_lem, adc_gates_lem, eq_gates_lem, ult_gates_lem, slt_gates_lem}
use Rattle.loadlist.specs.Records.{rec, and_op, or_op, xor_op}
use Rattle.cells.specs.Values.{kind_value}
use Rattle.cells.specs.Records.{Made, made, kind_made, mux_made, adc_made, eq_made, ult_made, slt_made}
use Rattle.cells.proofs.Running.{at, reads_of, Early, Right, right_none}
use Rattle.cells.proofs.Rightness.{not_right, gate_right, mux_right, adc_right, eq_right, ult_right, slt_right}

-- the same choice of records and of values
picked_right : (ins S : List ℕ) (t : Bool) (m m' : Made) (v v' : List ℕ) → (t ≡ true → Right ins S m v) → (t ≡ false → Right ins S m' v') → Right ins S (pick t m m') (pick t v v')
picked_right ins S true m m' v v' p q = p refl
picked_right ins S false m m' v v' p q = q refl

module _ (ins S : List ℕ) (k : ℕ) (e : k ≡ length S) (trits : Trits S) (some : 0 < length S) (none : at S 0 ≡ 0) where
  held : (xs : List ℕ) → Trits (reads_of S xs)
  held xs = trits_map (at S) (trits_at S trits) xs

  -- the select is one bit wide, and both sides are as wide as each other
  mux_holds : (w : ℕ) (a b c : List ℕ) → Fits mux w (length a) (length b) (length c) → Early S a → Early S b → Early S c
      → Right ins S (mux_made k (get_or a 0 0) b c) (mux_bits (get_or (reads_of S a) 0 2) (reads_of S b) (reads_of S c))
  mux_holds w [] b c f p q r =
      let h = and_true (wide w) (eqb 0 1 && (eqb (length b) w && eqb (length c) w)) f.widths in
      absurd (omega (arith, eqb-true 0 1 (and_true (eqb 0 1) (eqb (length b) w && eqb (length c) w) h.1).0))
  mux_holds w (s ∷ a) b c f p q r =
      let h = and_true (wide w) (eqb (suc (length a)) 1 && (eqb (length b) w && eqb (length c) w)) f.widths in
      let g = and_true (eqb (suc (length a)) 1) (eqb (length b) w && eqb (length c) w) h.1 in
      let i = and_true (eqb (length b) w) (eqb (length c) w) g.1 in
      let same : length (reads_of S b) ≡ length (reads_of S c) = omega (arith, length-map b (at S), length-map c (at S), eqb-true (length b) w i.0, eqb-true (length c) w i.1) in
      subst (Right ins S (mux_made k s b c)) (mux_gates_lem (at S s) (reads_of S b) (reads_of S c) (trits_at S trits s) (held b) (held c) same)
      (mux_right ins S k e s p.0 b c q r)

  -- the carry in is one bit wide
  adc_holds : (w : ℕ) (a b c : List ℕ) → Fits adc w (length a) (length b) (length c) → Early S a → Early S b → Early S c
      → Right ins S (adc_made k a b (get_or c 0 0)) (adc_bits (reads_of S a) (reads_of S b) (get_or (reads_of S c) 0 2))
  adc_holds w a b [] f p q r =
      let rest = eqb (length b) (length a) && (eqb 0 1 && eqb w (length a + 1)) in
      let h = and_true (wide w) (wide (length a) && rest) f.widths in
      let g = and_true (wide (length a)) rest h.1 in
      let i = and_true (eqb (length b) (length a)) (eqb 0 1 && eqb w (length a + 1)) g.1 in
      absurd (omega (arith, eqb-true 0 1 (and_true (eqb 0 1) (eqb w (length a + 1)) i.1).0))
  adc_holds w a b (c ∷ cs) f p q r =
      subst (Right ins S (adc_made k a b c)) (adc_gates_lem (reads_of S a) (reads_of S b) (at S c) (held a) (held b) (trits_at S trits c))
      (adc_right ins S k e a b c p q r.0)

  -- operands that are compared have a bit, and are as wide as each other
  compared_wide : (w : ℕ) (a b c : List ℕ) → Fits eq w (length a) (length b) (length c) → (1 ≤ length a) × (length b ≡ length a)
  compared_wide w a b c f =
      let h = and_true (eqb w 1) (wide (length a) && eqb (length b) (length a)) f.widths in
      let g = and_true (wide (length a)) (eqb (length b) (length a)) h.1 in
      ((wide_is (length a) g.0).0, eqb-true (length b) (length a) g.1)

  eq_holds : (a b : List ℕ) → 1 ≤ length a → length b ≡ length a → Early S a → Early S b → Right ins S (eq_made k a b) (eq_bit (reads_of S a) (reads_of S b) ∷ [])
  eq_holds [] b l m p q = absurd (omega arith)
  eq_holds (x ∷ a) [] l m p q = absurd (omega arith)
  eq_holds (x ∷ a) (y ∷ b) l m p q =
      subst (λ (z : ℕ). Right ins S (eq_made k (x ∷ a) (y ∷ b)) (z ∷ [])) (eq_gates_lem (reads_of S (x ∷ a)) (reads_of S (y ∷ b)) (held (x ∷ a)) (held (y ∷ b)))
      (eq_right ins S k e x y a b p q)

  ult_holds : (a b : List ℕ) → Early S a → Early S b → Right ins S (ult_made k a b 0) (ult_bit (reads_of S a) (reads_of S b) ∷ [])
  unfolding ult_gates
  ult_holds a b p q =
      subst (λ (z : ℕ). Right ins S (ult_made k a b 0) (z ∷ [])) (ap (λ (z : ℕ). Rattle.trit.specs.Gates.ult_gates_from (reads_of S a) (reads_of S b) z) none ∙ ult_gates_lem (reads_of S a) (reads_of S b) (held a) (held b))
      (ult_right ins S k e a b 0 p q some)

  slt_holds : (a b : List ℕ) → Early S a → Early S b → Right ins S (slt_made k a b 0) (slt_bit (reads_of S a) (reads_of S b) ∷ [])
  unfolding slt_gates
  slt_holds a b p q =
      subst (λ (z : ℕ). Right ins S (slt_made k a b 0) (z ∷ [])) (ap (λ (z : ℕ). Rattle.trit.specs.Gates.slt_gates_from (reads_of S a) (reads_of S b) z) none ∙ slt_gates_lem (reads_of S a) (reads_of S b) (held a) (held b))
      (slt_right ins S k e a b 0 p q some)

  -- what a kind's width rule says where the kind is known
  fits_as : (n kind w a b c : ℕ) → eqb kind n ≡ true → Fits (kind_at kind) w a b c → Fits (kind_at n) w a b c
  fits_as n kind w a b c h f = subst (λ (z : ℕ). Fits (kind_at z) w a b c) (eqb-true kind n h) f

  -- THE RECORDS OF A CELL HOLD ITS VALUE
  pub kind_right : (kind w : ℕ) (a b c : List ℕ) → Fits (kind_at kind) w (length a) (length b) (length c) → Early S a → Early S b → Early S c
      → Right ins S (kind_made kind k a b c) (kind_value kind (reads_of S a) (reads_of S b) (reads_of S c))
  unfolding kind_made kind_value kind_at
  kind_right kind w a b c f p q r =
      picked_right ins S (eqb kind not_kind) _ _ _ _ (λ _. not_right ins S k e a p) (λ _.
      picked_right ins S (eqb kind and_kind) _ _ _ _ (λ _. gate_right ins and_op and_of (λ S x y. refl) S k e a b p q) (λ _.
      picked_right ins S (eqb kind or_kind) _ _ _ _ (λ _. gate_right ins or_op or_of (λ S x y. refl) S k e a b p q) (λ _.
      picked_right ins S (eqb kind xor_kind) _ _ _ _ (λ _. gate_right ins xor_op xor_of (λ S x y. refl) S k e a b p q) (λ _.
      picked_right ins S (eqb kind mux_kind) _ _ _ _ (λ h. mux_holds w a b c (fits_as mux_kind kind w _ _ _ h f) p q r) (λ _.
      picked_right ins S (eqb kind adc_kind) _ _ _ _ (λ h. adc_holds w a b c (fits_as adc_kind kind w _ _ _ h f) p q r) (λ _.
      picked_right ins S (eqb kind eq_kind) _ _ _ _ (λ h. let l = compared_wide w a b c (fits_as eq_kind kind w _ _ _ h f) in eq_holds a b l.0 l.1 p q) (λ _.
      picked_right ins S (eqb kind ult_kind) _ _ _ _ (λ _. ult_holds a b p q) (λ _.
      picked_right ins S (eqb kind slt_kind) _ _ _ _ (λ _. slt_holds a b p q) (λ _.
      right_none ins S a p)))))))))
