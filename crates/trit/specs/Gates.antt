-- The same cells as the single gates that a load list takes, a gate's operands in the order of the record's fields.
use Rattle.std.specs.Prelude.{List, [], ◌∷◌, ℕ}
use Rattle.trit.specs.Trit.{not_of, and_of, or_of, xor_of}
use Rattle.trit.specs.Wide.{pairs}

-- "and s a; and (not s) b; or; xor with xor s s"
unfoldable pub mux_gate : ℕ → ℕ → ℕ → ℕ
mux_gate s a b = xor_of (xor_of s s) (or_of (and_of s a) (and_of (not_of s) b))

unfoldable pub mux_gates : ℕ → List ℕ → List ℕ → List ℕ
mux_gates s xs ys = pairs (mux_gate s) xs ys

-- "and a b; or a b; and that, carry; or (the next carry)"
unfoldable pub carry_gates : ℕ → ℕ → ℕ → ℕ
carry_gates a b c = or_of (and_of a b) (and_of (or_of a b) c)

-- "xor a b; xor that, carry", then the carry's four
unfoldable pub adc_gates : List ℕ → List ℕ → ℕ → List ℕ
adc_gates [] ys c = c ∷ []
adc_gates (a ∷ xs) [] c = c ∷ []
adc_gates (a ∷ xs) (b ∷ ys) c = xor_of (xor_of a b) c ∷ adc_gates xs ys (carry_gates a b c)

-- "from bit 1 an or with the sum so far; last a not"
unfoldable pub eq_gates_from : List ℕ → List ℕ → ℕ → ℕ
eq_gates_from [] ys d = not_of d
eq_gates_from (a ∷ xs) [] d = not_of d
eq_gates_from (a ∷ xs) (b ∷ ys) d = eq_gates_from xs ys (or_of d (xor_of a b))

-- "xor, then .."; of no bits at all, 1
unfoldable pub eq_gates : List ℕ → List ℕ → ℕ
eq_gates [] ys = 1
eq_gates (a ∷ xs) [] = 1
eq_gates (a ∷ xs) (b ∷ ys) = eq_gates_from xs ys (xor_of a b)

-- "not a, then adc's last four records over not a, b and the last"
unfoldable pub ult_gates_from : List ℕ → List ℕ → ℕ → ℕ
ult_gates_from [] ys c = c
ult_gates_from (a ∷ xs) [] c = c
ult_gates_from (a ∷ xs) (b ∷ ys) c = ult_gates_from xs ys (carry_gates (not_of a) b c)

unfoldable pub ult_gates : List ℕ → List ℕ → ℕ
ult_gates xs ys = ult_gates_from xs ys 0

-- "slt at the top: not b, then a and not b"
unfoldable pub slt_gates_from : List ℕ → List ℕ → ℕ → ℕ
slt_gates_from [] ys c = c
slt_gates_from (a ∷ []) [] c = c
slt_gates_from (a ∷ []) (b ∷ ys) c = carry_gates a (not_of b) c
slt_gates_from (a ∷ a' ∷ xs) [] c = c
slt_gates_from (a ∷ a' ∷ xs) (b ∷ ys) c = slt_gates_from (a' ∷ xs) ys (carry_gates (not_of a) b c)

unfoldable pub slt_gates : List ℕ → List ℕ → ℕ
slt_gates xs ys = slt_gates_from xs ys 0
