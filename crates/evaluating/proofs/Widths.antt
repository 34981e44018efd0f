-- A cell's value has the cell's width.
use mathlib.Core.Path.{◌≡◌, refl, ◌∙◌, sym, subst}
use mathlib.Core.Bool.{Bool, true, false, ◌&&◌}
use mathlib.Core.List.{List}
use Prim.Native.Nat.{ℕ, suc, ◌+◌, ◌<◌, ◌≤◌}
use native.Mathlib.Omega.{arith}
use lib.Dec.{eqb, leb}
use lib.ListN.{length, get_or}
use borrow.Author.Tests.{eqb-true, eqb-false, leb-true}
use Rattle.ground.specs.Choice.{pick}
use Rattle.ground.proofs.Bools.{and_true, or_false, fact}
use Rattle.kinds.specs.Kinds.{wide, is_kind, kind_at, input_kind, output_kind, not_kind, and_kind, or_kind, xor_kind, mux_kind, adc_kind, eq_kind, ult_kind, slt_kind}
use Rattle.kinds.proofs.Widths.{Fits}
use Rattle.trit.specs.Trit.{and_of, or_of, xor_of}
use Rattle.trit.proofs.Wide.{not_length, pairs_length, mux_length, adc_length}
use Rattle.netlist.specs.Netlist.{Netlist}
use Rattle.netlist.specs.Rules.{widths_of, valid}
use Rattle.netlist.proofs.Lengths.{cell_fits}
use Rattle.cells.specs.Operands.{bits_from}
use Rattle.cells.specs.Values.{kind_value, cell_value}
use Rattle.cells.proofs.Linking.{length_bits}
use Rattle.placing.specs.Placing.{cell_at, apart}
use Rattle.placing.proofs.Sound.{valid_cell}

picked_length : (b : Bool) (x y : List ℕ) (w : ℕ) → (b ≡ true → length x ≡ w) → (b ≡ false → length y ≡ w) → length (pick b x y) ≡ w
picked_length true x y w p q = p refl
picked_length false x y w p q = q refl

below : (k n : ℕ) → k ≤ suc n → eqb k (suc n) ≡ false → k ≤ n
below k n h e = let d = eqb-false k (suc n) e in omega arith

above : (k n : ℕ) → n ≤ k → eqb k n ≡ false → suc n ≤ k
above k n h e = let d = eqb-false k n e in omega arith

between : (k : ℕ) → 3 ≤ k → k ≤ 3 → k ≡ 3
between k l h = omega arith

module _ (w : ℕ) (a b c : List ℕ) where
  abbrev FitsAs : ℕ → Type 0
  FitsAs n = Fits (kind_at n) w (length a) (length b) (length c)

  fits_as : (kind n : ℕ) → FitsAs kind → eqb kind n ≡ true → FitsAs n
  fits_as kind n f h = subst FitsAs (eqb-true kind n h) f

  -- a=w
  one_wide : wide w && eqb (length a) w ≡ true → length a ≡ w
  one_wide h = eqb-true (length a) w (and_true (wide w) (eqb (length a) w) h).1

  -- a=b=w
  gate_wide : (f : ℕ → ℕ → ℕ) → wide w && (eqb (length a) w && eqb (length b) w) ≡ true → length (Rattle.trit.specs.Wide.pairs f a b) ≡ w
  gate_wide f h =
      let p = and_true (eqb (length a) w) (eqb (length b) w) (and_true (wide w) _ h).1 in
      let x = eqb-true (length a) w p.0 in
      pairs_length f a b (x ∙ sym (eqb-true (length b) w p.1)) ∙ x

  mux_wide : FitsAs mux_kind → length (Rattle.trit.specs.Mux.mux_bits (get_or a 0 2) b c) ≡ w
  unfolding kind_at
  mux_wide f =
      let p = and_true (eqb (length a) 1) _ (and_true (wide w) _ f.widths).1 in
      let q = and_true (eqb (length b) w) (eqb (length c) w) p.1 in
      let x = eqb-true (length b) w q.0 in
      mux_length (get_or a 0 2) b c (x ∙ sym (eqb-true (length c) w q.1)) ∙ x

  adc_wide : FitsAs adc_kind → length (Rattle.trit.specs.Wide.adc_bits a b (get_or c 0 2)) ≡ w
  unfolding kind_at
  adc_wide f =
      let p = and_true (wide (length a)) _ (and_true (wide w) _ f.widths).1 in
      let q = and_true (eqb (length b) (length a)) _ p.1 in
      let r = and_true (eqb (length c) 1) (eqb w (length a + 1)) q.1 in
      adc_length a b (get_or c 0 2) (sym (eqb-true (length b) (length a) q.0)) ∙ sym (eqb-true w (length a + 1) r.1)

  -- w=1
  bit_wide : eqb w 1 && (wide (length a) && eqb (length b) (length a)) ≡ true → 1 ≡ w
  bit_wide h = sym (eqb-true w 1 (and_true (eqb w 1) _ h).0)

  -- the kind that is left is buf
  is_buf : (kind : ℕ) → is_kind kind ≡ true → eqb kind input_kind ≡ false → eqb kind output_kind ≡ false → eqb kind not_kind ≡ false → eqb kind and_kind ≡ false → eqb kind or_kind ≡ false
      → eqb kind xor_kind ≡ false → eqb kind mux_kind ≡ false → eqb kind adc_kind ≡ false → eqb kind eq_kind ≡ false → eqb kind ult_kind ≡ false → eqb kind slt_kind ≡ false → kind ≡ 3
  is_buf kind h e1 e2 e4 e5 e6 e7 e8 e9 e10 e11 e12 =
      let p = and_true (leb 1 kind) (leb kind 12) h in
      between kind (above kind 2 (above kind 1 (leb-true 1 kind p.0) e1) e2)
      (below kind 3 (below kind 4 (below kind 5 (below kind 6 (below kind 7 (below kind 8 (below kind 9 (below kind 10 (below kind 11 (leb-true kind 12 p.1) e12) e11) e10) e9) e8) e7) e6) e5) e4)

  pub kind_length : (kind : ℕ) → is_kind kind ≡ true → eqb kind input_kind ≡ false → eqb kind output_kind ≡ false → FitsAs kind → length (kind_value kind a b c) ≡ w
  unfolding kind_value kind_at
  kind_length kind k i o f =
      picked_length (eqb kind not_kind) _ _ w (λ h. not_length a ∙ one_wide (fits_as kind not_kind f h).widths) (λ e4.
      picked_length (eqb kind and_kind) _ _ w (λ h. gate_wide and_of (fits_as kind and_kind f h).widths) (λ e5.
      picked_length (eqb kind or_kind) _ _ w (λ h. gate_wide or_of (fits_as kind or_kind f h).widths) (λ e6.
      picked_length (eqb kind xor_kind) _ _ w (λ h. gate_wide xor_of (fits_as kind xor_kind f h).widths) (λ e7.
      picked_length (eqb kind mux_kind) _ _ w (λ h. mux_wide (fits_as kind mux_kind f h)) (λ e8.
      picked_length (eqb kind adc_kind) _ _ w (λ h. adc_wide (fits_as kind adc_kind f h)) (λ e9.
      picked_length (eqb kind eq_kind) _ _ w (λ h. bit_wide (fits_as kind eq_kind f h).widths) (λ e10.
      picked_length (eqb kind ult_kind) _ _ w (λ h. bit_wide (fits_as kind ult_kind f h).widths) (λ e11.
      picked_length (eqb kind slt_kind) _ _ w (λ h. bit_wide (fits_as kind slt_kind f h).widths) (λ e12.
      one_wide (subst FitsAs (is_buf kind k i o e4 e5 e6 e7 e8 e9 e10 e11 e12) f).widths)))))))))

-- A CELL'S VALUE HAS ITS WIDTH
pub value_length : (N : Netlist) → valid N ≡ true → (u : ℕ → List ℕ) (row : ℕ) → row < length N.cells → apart N row ≡ false → length (cell_value u (cell_at N row)) ≡ (cell_at N row).width
unfolding cell_value
value_length N v u row l h =
    let c = cell_at N row in
    let s = valid_cell N v row l in
    let o = or_false (eqb c.kind input_kind) (eqb c.kind output_kind) h in
    let f = cell_fits (widths_of N.cells) (length N.metas) c s in
    let g : Fits (kind_at c.kind) c.width (length (bits_from u c.a)) (length (bits_from u c.b)) (length (bits_from u c.c)) = rw (length_bits u c.a, length_bits u c.b, length_bits u c.c) f in
    kind_length c.width (bits_from u c.a) (bits_from u c.b) (bits_from u c.c) c.kind (fact _ s 0) o.0 o.1 g
