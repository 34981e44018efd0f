-- A cell that fits its kind makes as many records as document 01's table says (Cells, the column 'records'), and as many bits as it is wide.
use mathlib.Core.Path.{◌≡◌, refl, ap, ◌∙◌, sym, subst}
use mathlib.Core.Bool.{true, false, ◌&&◌}
use mathlib.Core.List.{List, [], ◌∷◌}
use Prim.Native.Nat.{ℕ, suc, ◌+◌, ◌*◌, ◌≤◌}
use native.Mathlib.Omega.{arith}
use lib.Dec.{eqb}
use lib.ListN.{length, get_or}
use borrow.Author.Tests.{eqb-true}
use Rattle.ground.proofs.Bools.{bool_cases, and_true, never_both}
use Rattle.kinds.specs.Kinds.{wide, alike, all_alike, compared, kind_at, input_kind, output_kind, buf_kind, not_kind, and_kind, or_kind, xor_kind, mux_kind, adc_kind, eq_kind, ult_kind, slt_kind}
use Rattle.kinds.proofs.Widths.{Fits, wide_is}
use Rattle.loadlist.specs.Records.{and_op, or_op, xor_op}
use Rattle.cells.specs.Records.{Made, not_made, gate_made, mux_from, mux_made, adc_made, eq_from, eq_made, ult_made, slt_made, kind_made}

-- as many records as n, and as many bits as w
abbrev pub Makes : Made → ℕ → ℕ → Type 0
Makes m n w = (length m.records ≡ n) × (length m.outs ≡ w)

not_makes : (k : ℕ) (xs : List ℕ) → Makes (not_made k xs) (length xs) (length xs)
unfolding not_made
not_makes k [] = (refl, refl)
not_makes k (x ∷ xs) = let m = not_makes (k + 1) xs in (ap suc m.0, ap suc m.1)

gate_makes : (op k : ℕ) (xs ys : List ℕ) → length ys ≡ length xs → Makes (gate_made op k xs ys) (length xs) (length xs)
unfolding gate_made
gate_makes op k [] ys e = (refl, refl)
gate_makes op k (x ∷ xs) [] e = absurd (omega arith)
gate_makes op k (x ∷ xs) (y ∷ ys) e = let m = gate_makes op (k + 1) xs ys (omega arith) in (ap suc m.0, ap suc m.1)

mux_makes : (s n x k : ℕ) (xs ys : List ℕ) → length ys ≡ length xs → Makes (mux_from s n x k xs ys) (4 * length xs) (length xs)
unfolding mux_from
mux_makes s n x k [] ys e = (refl, refl)
mux_makes s n x k (a ∷ xs) [] e = absurd (omega arith)
mux_makes s n x k (a ∷ xs) (b ∷ ys) e = let m = mux_makes s n x (k + 4) xs ys (omega arith) in (omega (arith, m.0), ap suc m.1)

adc_makes : (k : ℕ) (xs ys : List ℕ) (c : ℕ) → length ys ≡ length xs → Makes (adc_made k xs ys c) (6 * length xs) (length xs + 1)
unfolding adc_made
adc_makes k [] ys c e = (refl, refl)
adc_makes k (a ∷ xs) [] c e = absurd (omega arith)
adc_makes k (a ∷ xs) (b ∷ ys) c e = let m = adc_makes (k + 6) xs ys (k + 5) (omega arith) in (omega (arith, m.0), omega (arith, m.1))

eq_from_makes : (sum k : ℕ) (xs ys : List ℕ) → length ys ≡ length xs → Makes (eq_from sum k xs ys) (2 * length xs + 1) 1
unfolding eq_from
eq_from_makes sum k [] ys e = (refl, refl)
eq_from_makes sum k (a ∷ xs) [] e = absurd (omega arith)
eq_from_makes sum k (a ∷ xs) (b ∷ ys) e = let m = eq_from_makes (k + 1) (k + 2) xs ys (omega arith) in (omega (arith, m.0), m.1)

eq_makes : (k : ℕ) (xs ys : List ℕ) → 1 ≤ length xs → length ys ≡ length xs → Makes (eq_made k xs ys) (2 * length xs) 1
unfolding eq_made
eq_makes k [] ys l e = absurd (omega arith)
eq_makes k (a ∷ xs) [] l e = absurd (omega arith)
eq_makes k (a ∷ xs) (b ∷ ys) l e = let m = eq_from_makes k (k + 1) xs ys (omega arith) in (omega (arith, m.0), m.1)

ult_makes : (k : ℕ) (xs ys : List ℕ) (c : ℕ) → length ys ≡ length xs → Makes (ult_made k xs ys c) (5 * length xs) 1
unfolding ult_made
ult_makes k [] ys c e = (refl, refl)
ult_makes k (a ∷ xs) [] c e = absurd (omega arith)
ult_makes k (a ∷ xs) (b ∷ ys) c e = let m = ult_makes (k + 5) xs ys (k + 4) (omega arith) in (omega (arith, m.0), m.1)

slt_makes : (k : ℕ) (xs ys : List ℕ) (c : ℕ) → length ys ≡ length xs → Makes (slt_made k xs ys c) (5 * length xs) 1
unfolding slt_made
slt_makes k [] ys c e = (refl, refl)
slt_makes k (a ∷ []) [] c e = absurd (omega arith)
slt_makes k (a ∷ []) (b ∷ ys) c e = (refl, refl)
slt_makes k (a ∷ a' ∷ xs) [] c e = absurd (omega arith)
slt_makes k (a ∷ a' ∷ xs) (b ∷ ys) c e = let m = slt_makes (k + 5) (a' ∷ xs) ys (k + 4) (omega arith) in (omega (arith, m.0), m.1)

-- EVERY KIND but input and output, whose records are not made in their turn
module _ (k w : ℕ) (a b c : List ℕ) where
  abbrev Told : ℕ → Type 0
  Told kind = Fits (kind_at kind) w (length a) (length b) (length c) → Makes (kind_made kind k a b c) ((kind_at kind).records w (length a)) w

  told_as : (n kind : ℕ) → eqb kind n ≡ true → Told n → Told kind
  told_as n kind e t = subst Told (sym (eqb-true kind n e)) t

  -- buf, not: a=w
  one_wide : alike w (length a) (length b) (length c) ≡ true → length a ≡ w
  one_wide h = eqb-true (length a) w (and_true (wide w) (eqb (length a) w) h).1

  told_buf : Told buf_kind
  unfolding kind_made kind_at
  told_buf f = (refl, one_wide f.widths)

  told_not : Told not_kind
  unfolding kind_made kind_at
  told_not f = let m = not_makes k a in (m.0 ∙ one_wide f.widths, m.1 ∙ one_wide f.widths)

  -- and, or, xor: a=b=w
  told_gate : (op : ℕ) → all_alike w (length a) (length b) (length c) ≡ true → Makes (gate_made op k a b) w w
  told_gate op h =
      let p = and_true (wide w) (eqb (length a) w && eqb (length b) w) h in
      let q = and_true (eqb (length a) w) (eqb (length b) w) p.1 in
      let x = eqb-true (length a) w q.0 in
      let y = eqb-true (length b) w q.1 in
      let m = gate_makes op k a b (omega arith) in
      (m.0 ∙ x, m.1 ∙ x)

  told_and : Told and_kind
  unfolding kind_made kind_at
  told_and f = told_gate and_op f.widths

  told_or : Told or_kind
  unfolding kind_made kind_at
  told_or f = told_gate or_op f.widths

  told_xor : Told xor_kind
  unfolding kind_made kind_at
  told_xor f = told_gate xor_op f.widths

  told_mux : Told mux_kind
  unfolding kind_made kind_at mux_made
  told_mux f =
      let p = and_true (wide w) (eqb (length a) 1 && (eqb (length b) w && eqb (length c) w)) f.widths in
      let q = and_true (eqb (length a) 1) (eqb (length b) w && eqb (length c) w) p.1 in
      let r = and_true (eqb (length b) w) (eqb (length c) w) q.1 in
      let x = eqb-true (length b) w r.0 in
      let y = eqb-true (length c) w r.1 in
      let m = mux_makes (get_or a 0 0) k (k + 1) (k + 2) b c (omega arith) in
      (omega (arith, m.0), m.1 ∙ x)

  told_adc : Told adc_kind
  unfolding kind_made kind_at
  told_adc f =
      let last = eqb (length c) 1 && eqb w (length a + 1) in
      let p = and_true (wide w) (wide (length a) && (eqb (length b) (length a) && last)) f.widths in
      let q = and_true (wide (length a)) (eqb (length b) (length a) && last) p.1 in
      let r = and_true (eqb (length b) (length a)) last q.1 in
      let t = and_true (eqb (length c) 1) (eqb w (length a + 1)) r.1 in
      let m = adc_makes k a b (get_or c 0 0) (eqb-true (length b) (length a) r.0) in
      (m.0, m.1 ∙ sym (eqb-true w (length a + 1) t.1))

  -- eq, ult, slt: w=1, a=b
  one_bit : compared w (length a) (length b) (length c) ≡ true → (w ≡ 1) × (1 ≤ length a) × (length b ≡ length a)
  one_bit h =
      let p = and_true (eqb w 1) (wide (length a) && eqb (length b) (length a)) h in
      let q = and_true (wide (length a)) (eqb (length b) (length a)) p.1 in
      (eqb-true w 1 p.0, (wide_is (length a) q.0).0, eqb-true (length b) (length a) q.1)

  told_eq : Told eq_kind
  unfolding kind_made kind_at
  told_eq f = let t = one_bit f.widths in let m = eq_makes k a b t.1 t.2 in (m.0, m.1 ∙ sym t.0)

  told_ult : Told ult_kind
  unfolding kind_made kind_at
  told_ult f = let t = one_bit f.widths in let m = ult_makes k a b 0 t.2 in (m.0, m.1 ∙ sym t.0)

  told_slt : Told slt_kind
  unfolding kind_made kind_at
  told_slt f = let t = one_bit f.widths in let m = slt_makes k a b 0 t.2 in (m.0, m.1 ∙ sym t.0)

  -- a number that is no kind's passes no width rule
  told_none : (kind : ℕ) → eqb kind 1 ≡ false → eqb kind 2 ≡ false → eqb kind 3 ≡ false → eqb kind 4 ≡ false → eqb kind 5 ≡ false → eqb kind 6 ≡ false
      → eqb kind 7 ≡ false → eqb kind 8 ≡ false → eqb kind 9 ≡ false → eqb kind 10 ≡ false → eqb kind 11 ≡ false → eqb kind 12 ≡ false → Told kind
  unfolding kind_at
  told_none kind a1 a2 a3 a4 a5 a6 a7 a8 a9 b0 b1 b2 f = never_both (rw (a1, a2, a3, a4, a5, a6, a7, a8, a9, b0, b1, b2) at f.widths) refl

  pub kind_makes : (kind : ℕ) → eqb kind input_kind ≡ false → eqb kind output_kind ≡ false → Told kind
  kind_makes kind i o =
      bool_cases (eqb kind 3) (λ e. told_as 3 kind e told_buf) (λ a3.
      bool_cases (eqb kind 4) (λ e. told_as 4 kind e told_not) (λ a4.
      bool_cases (eqb kind 5) (λ e. told_as 5 kind e told_and) (λ a5.
      bool_cases (eqb kind 6) (λ e. told_as 6 kind e told_or) (λ a6.
      bool_cases (eqb kind 7) (λ e. told_as 7 kind e told_xor) (λ a7.
      bool_cases (eqb kind 8) (λ e. told_as 8 kind e told_mux) (λ a8.
      bool_cases (eqb kind 9) (λ e. told_as 9 kind e told_adc) (λ a9.
      bool_cases (eqb kind 10) (λ e. told_as 10 kind e told_eq) (λ b0.
      bool_cases (eqb kind 11) (λ e. told_as 11 kind e told_ult) (λ b1.
      bool_cases (eqb kind 12) (λ e. told_as 12 kind e told_slt) (λ b2.
      told_none kind i o a3 a4 a5 a6 a7 a8 a9 b0 b1 b2))))))))))
