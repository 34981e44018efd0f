-- Each public function has one outcome: two that its contract allows are equal.
use mathlib.Core.Path.{◌≡◌, sym, ◌∙◌}
use mathlib.Core.List.{List, [], ◌∷◌}
use Prim.Native.Nat.{ℕ}
use lib.Seq.{sets}
use Rattle.ground.specs.Writes.{Put}
use Rattle.ground.proofs.Outcome.{any_two}
use Rattle.trit.specs.Trit.{and_of, or_of, xor_of}
use Rattle.trit.specs.Wide.{not_bits, pairs, adc_bits, eq_bit, ult_bit, slt_bit}
use Rattle.trit.specs.Mux.{mux_bits}
use Rattle.cells.specs.Values.{kind_value}

-- bits put over a lent slice, from its front on
abbrev Puts : List ℕ → Type 0
Puts bits = (out o p : List ℕ) → o ≡ sets out 0 bits → p ≡ sets out 0 bits → o ≡ p

one_put : (bits : List ℕ) → Puts bits
one_put bits = any_two (λ out. sets out 0 bits)

pub one_not : (a : List ℕ) → Puts (not_bits a)
one_not a = one_put (not_bits a)

module _ (a b : List ℕ) where
  pub one_and : Puts (pairs and_of a b)
  one_and = one_put (pairs and_of a b)

  pub one_or : Puts (pairs or_of a b)
  one_or = one_put (pairs or_of a b)

  pub one_xor : Puts (pairs xor_of a b)
  one_xor = one_put (pairs xor_of a b)

  pub one_mux : (s : ℕ) → Puts (mux_bits s a b)
  one_mux s = one_put (mux_bits s a b)

  pub one_adc : (c : ℕ) → Puts (adc_bits a b c)
  one_adc c = one_put (adc_bits a b c)

  pub one_eq : (o p : ℕ) → o ≡ eq_bit a b → p ≡ eq_bit a b → o ≡ p
  one_eq = any_two (eq_bit a) b

  pub one_ult : (o p : ℕ) → o ≡ ult_bit a b → p ≡ ult_bit a b → o ≡ p
  one_ult = any_two (ult_bit a) b

  pub one_slt : (o p : ℕ) → o ≡ slt_bit a b → p ≡ slt_bit a b → o ≡ p
  one_slt = any_two (slt_bit a) b

  pub one_eq_put : Puts (eq_bit a b ∷ [])
  one_eq_put = one_put (eq_bit a b ∷ [])

  pub one_ult_put : Puts (ult_bit a b ∷ [])
  one_ult_put = one_put (ult_bit a b ∷ [])

  pub one_slt_put : Puts (slt_bit a b ∷ [])
  one_slt_put = one_put (slt_bit a b ∷ [])

pub one_value : (kind : ℕ) (a b c : List ℕ) → Puts (kind_value kind a b c)
one_value kind a b c = one_put (kind_value kind a b c)

pub one_gather : (bits out o p : List ℕ) (n m : ℕ) → Put out 0 bits n o → Put out 0 bits m p → (n ≡ m) × (o ≡ p)
one_gather bits out o p n m s t = (s.next ∙ sym t.next, s.holds ∙ sym t.holds)
