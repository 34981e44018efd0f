-- The rules over bit lists, bit 0 first. Of lists that differ in length only the places that both have count.
use Rattle.std.specs.Prelude.{Bool, true, false, ◌&&◌, ◌||◌, List, [], ◌∷◌, ℕ, eqb, ltb}
use Rattle.ground.specs.Choice.{pick}
use Rattle.trit.specs.Trit.{not_of, xor_of, carry_of}

unfoldable pub not_bits : List ℕ → List ℕ
not_bits [] = []
not_bits (a ∷ xs) = not_of a ∷ not_bits xs

-- a gate bit by bit
unfoldable pub pairs : (ℕ → ℕ → ℕ) → List ℕ → List ℕ → List ℕ
pairs f [] ys = []
pairs f (a ∷ xs) [] = []
pairs f (a ∷ xs) (b ∷ ys) = f a b ∷ pairs f xs ys

-- "bit i is a xor b xor carry", the next carry is by the carry rule, and "the top bit is the last carry"
unfoldable pub adc_bits : List ℕ → List ℕ → ℕ → List ℕ
adc_bits [] ys c = c ∷ []
adc_bits (a ∷ xs) [] c = c ∷ []
adc_bits (a ∷ xs) (b ∷ ys) c = xor_of (xor_of a b) c ∷ adc_bits xs ys (carry_of a b c)

-- a place that holds 0 against 1
unfoldable pub clash : ℕ → ℕ → Bool
clash a b = (eqb a 0 && eqb b 1) || (eqb a 1 && eqb b 0)

-- a place that is known and equal
unfoldable pub agree : ℕ → ℕ → Bool
agree a b = eqb a b && ltb a 2

unfoldable pub some_clash : List ℕ → List ℕ → Bool
some_clash [] ys = false
some_clash (a ∷ xs) [] = false
some_clash (a ∷ xs) (b ∷ ys) = clash a b || some_clash xs ys

unfoldable pub all_agree : List ℕ → List ℕ → Bool
all_agree [] ys = true
all_agree (a ∷ xs) [] = true
all_agree (a ∷ xs) (b ∷ ys) = agree a b && all_agree xs ys

-- "0 if some place holds 0 against 1; 1 if all are known and equal; else X"
unfoldable pub eq_bit : List ℕ → List ℕ → ℕ
eq_bit xs ys = pick (some_clash xs ys) 0 (pick (all_agree xs ys) 1 2)

-- "from bit 0 up, the carry rule over not a, b and the last"
unfoldable pub ult_from : List ℕ → List ℕ → ℕ → ℕ
ult_from [] ys c = c
ult_from (a ∷ xs) [] c = c
ult_from (a ∷ xs) (b ∷ ys) c = ult_from xs ys (carry_of (not_of a) b c)

-- "start at 0"
unfoldable pub ult_bit : List ℕ → List ℕ → ℕ
ult_bit xs ys = ult_from xs ys 0

-- "ult, the top place using a and not b"
unfoldable pub slt_from : List ℕ → List ℕ → ℕ → ℕ
slt_from [] ys c = c
slt_from (a ∷ []) [] c = c
slt_from (a ∷ []) (b ∷ ys) c = carry_of a (not_of b) c
slt_from (a ∷ a' ∷ xs) [] c = c
slt_from (a ∷ a' ∷ xs) (b ∷ ys) c = slt_from (a' ∷ xs) ys (carry_of (not_of a) b c)

unfoldable pub slt_bit : List ℕ → List ℕ → ℕ
slt_bit xs ys = slt_from xs ys 0
