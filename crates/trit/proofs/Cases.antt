-- The lines of document 01 between yes and no, computed. Bits are written most significant left, as there.
use Prim.Native.Nat.{ℕ}
use Prim.Native.String as str
use Prim.Native.String.{String}
use Prim.Native.Char.{code}
use mathlib.Core.Path.{◌≡◌, refl}
use mathlib.Core.List.{List, [], ◌∷◌, map}
use lib.Dec.{eqb}
use Rattle.ground.specs.Choice.{pick}
use Rattle.trit.specs.Trit.{not_of, xor_of, holds, count_of, carry_of}
use Rattle.trit.specs.Mux.{mux_bits}
use Rattle.trit.specs.Wide.{adc_bits, clash, agree, some_clash, all_agree, eq_bit, ult_from, ult_bit, slt_from, slt_bit}

-- a bit list by its text
abbrev read : String → List ℕ → List ℕ
read str.[] bits = bits
read (str.◌∷◌ c s) bits = read s (pick (eqb (code c) 48) 0 (pick (eqb (code c) 49) 1 2) ∷ bits)

abbrev bits : String → List ℕ
bits s = read s []

pub record Line : Type 0 where
  pub text : String
  pub gives : List ℕ
  pub is : String

abbrev line : String → List ℕ → String → Line
line t g i = record { text = t; gives = g; is = i }

abbrev pub lines : List Line
lines =
    line "mux X 1 1" (mux_bits 2 (bits "1") (bits "1")) "X"
    ∷ line "mux X 0 0" (mux_bits 2 (bits "0") (bits "0")) "X"
    ∷ line "eq 1X 0X" (eq_bit (bits "1X") (bits "0X") ∷ []) "0"
    ∷ line "eq 1X 10" (eq_bit (bits "1X") (bits "10") ∷ []) "X"
    ∷ line "ult 0X 10" (ult_bit (bits "0X") (bits "10") ∷ []) "1"
    ∷ line "slt 10 01" (slt_bit (bits "10") (bits "01") ∷ []) "1"
    ∷ line "adc 0 X 0" (adc_bits (bits "0") (bits "X") 0) "0X"
    ∷ []

pub right : map (λ (l : Line). l.gives) lines ≡ map (λ (l : Line). bits l.is) lines
unfolding not_of xor_of holds count_of carry_of mux_bits adc_bits clash agree some_clash all_agree eq_bit ult_from ult_bit slt_from slt_bit
right = refl
